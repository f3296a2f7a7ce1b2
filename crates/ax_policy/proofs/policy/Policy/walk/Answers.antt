-- At the top all rules are left.
use Rattle.std.proofs.Common.{refl}
use Rattle.ax_policy.proofs.WalkPlaces.{at_top}
use Rattle.ax_policy.proofs.policy.Policy.walk.Goals as goal

pub returns : goal.returns
returns c =
    at_top _ c.args.self.now c.tree-rules.result.now c.indexes.ensures c.own.ensures refl c.tree-rules.ensures
