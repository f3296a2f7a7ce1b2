-- What the rules decide is what the definition says.
use Rattle.std.proofs.Common.{sym, ◌∙◌}
use Rattle.ax_policy.proofs.Decisions.{covered, covers_is}
use Rattle.ax_policy.proofs.policy.Policy.covers.Goals as goal

pub returns : goal.returns
returns c = (
  λ t. covered c.args.self.now c.args.path.now (sym c.is_covered.ensures ∙ t),
  λ h. c.is_covered.ensures ∙ covers_is c.args.self.now c.args.path.now h,
)
