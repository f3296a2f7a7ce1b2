use Rattle.std.proofs.Common.{◌≡◌, ◌++◌, List, length}
use Rattle.ax_pair.specs.declared.pair.Pair.{Pair}
use Rattle.ax_delta.specs.declared.change.Change.{Change}
use Rattle.ax_keep.specs.Net.{drop_among}
use Rattle.ax_keep.proofs.netting.add_up_to.Given as goal

abbrev pub invariant-loop-order : goal.invariant-loop-order
invariant-loop-order l =
    (others : List Pair → List Change)
    → l.changes.items ++ drop_among l.pair others l.left.items ≡ l.fn.changes.items ++ drop_among l.pair others l.fn.left.items

abbrev pub decreases-loop-order : goal.decreases-loop-order
decreases-loop-order l = length l.left.items
