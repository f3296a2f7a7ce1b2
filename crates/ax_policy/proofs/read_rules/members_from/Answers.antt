-- The texts are those of the map's keys, which rise.
use Rattle.ax_policy.proofs.RuleMaps.{rise_at_end}
use Rattle.ax_policy.proofs.read_rules.members_from.Goals as goal

pub from_vec-requires : goal.from_vec-requires
from_vec-requires c =
    rise_at_end _ _ _ c.loop-name.invariant.made c.in-None.ensures.steps.0 c.len.ensures.ordered
