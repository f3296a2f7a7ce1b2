use Rattle.ax_tree.specs.Names.{HaveRisingNames}
use Rattle.ax_policy.specs.RuleTrees.{AreBefore}
use Rattle.ax_policy.proofs.name_places.place_ahead.Given as goal

abbrev pub invariant-loop : goal.invariant-loop
invariant-loop l = HaveRisingNames l.names → AreBefore l.name l.names l.at
