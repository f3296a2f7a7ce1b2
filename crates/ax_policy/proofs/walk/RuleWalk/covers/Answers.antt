-- What the rules decide is what the definition says.
use Rattle.std.proofs.Common.{sym, ◌∙◌}
use Rattle.ax_policy.proofs.Decisions.{covered, covers_is}
use Rattle.ax_policy.proofs.walk.RuleWalk.covers.Goals as goal

pub returns : goal.returns
returns c policy path a =
    let same = c.is_covered.ensures policy path a in (
      λ t. covered policy path (sym same ∙ t),
      λ h. same ∙ covers_is policy path h,
    )
