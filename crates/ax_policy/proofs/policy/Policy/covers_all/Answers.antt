-- What the rules decide of all leaves below is what the definition says.
use Rattle.std.proofs.Common.{sym, ◌∙◌}
use Rattle.ax_policy.proofs.Below.{all_covered, all_covered_is}
use Rattle.ax_policy.proofs.policy.Policy.covers_all.Goals as goal

pub returns : goal.returns
returns c =
    let facts = c.is_all_covered.ensures in (
      λ t. all_covered c.args.self.now c.args.path.now (sym facts.covered ∙ t),
      λ h. facts.covered ∙ all_covered_is c.args.self.now c.args.path.now facts.rising facts.written h,
    )
