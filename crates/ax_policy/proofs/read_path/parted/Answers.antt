-- A slash parts a text into two.
use Rattle.std.proofs.Common.{sym, subst}
use Rattle.std.specs.Str.{IsUtf8}
use Rattle.ax_policy.proofs.Utf8.{parted_utf8}
use Rattle.ax_policy.proofs.read_path.parted.Goals as goal

pub returns-clause-front : goal.returns-clause-front
returns-clause-front c =
    subst (λ bs. IsUtf8 bs) (sym c.split_at_slash.ensures.until)
    (parted_utf8 c.args.bytes.now c.requires).before

pub returns-clause-rest : goal.returns-clause-rest
returns-clause-rest c =
    subst (λ bs. IsUtf8 bs) (sym c.split_at_slash.ensures.from)
    (parted_utf8 c.args.bytes.now c.requires).after
