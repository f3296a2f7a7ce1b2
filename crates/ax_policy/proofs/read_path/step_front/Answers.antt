-- What stands behind a quote is a text.
use Rattle.std.proofs.Common.{arith, subst}
use Rattle.std.specs.Str.{IsUtf8}
use Rattle.ax_policy.proofs.Utf8.{tail_utf8}
use Rattle.ax_policy.proofs.read_path.step_front.Goals as goal

pub quoted_front-requires : goal.quoted_front-requires
quoted_front-requires c =
    tail_utf8 _ _ (subst (λ bs. IsUtf8 bs) c.in-Some.ensures.cases.0 c.requires)
    (omega (arith, c.if-byte-eq34.true))
