-- A mark begins with a slash, so what stands before it is UTF-8.
use Rattle.std.proofs.Common.{sym, ◌∙◌}
use Rattle.std.specs.Cmp.Lexicographic.{same_text}
use Rattle.ax_policy.proofs.Utf8.{before_marked}
use Rattle.ax_policy.proofs.read_path.before_mark.Goals as goal

pub returns-in-Some-clause-utf8 : goal.returns-in-Some-clause-utf8
returns-in-Some-clause-utf8 c =
    before_marked c.as_bytes.result.now c.as_bytes-2.result.now c.in-Some.front.now c.args.all
    c.as_bytes.ensures.utf8 (c.as_bytes-2.ensures.value ∙ c.mark.ensures)
    (same_text _ _ (sym c.in-Some.ensures.cases.0)) c.in-Some.ensures.cases.1
