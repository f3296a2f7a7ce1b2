use Rattle.std.proofs.Common.{◌≡◌, ◌++◌, length}
use Rattle.ax_keep.specs.Net.{adds}
use Rattle.ax_keep.proofs.netting.add_others.Given as goal

abbrev pub invariant-loop-changes : goal.invariant-loop-changes
invariant-loop-changes l = l.changes.items ++ adds l.left.items ≡ l.fn.changes.items ++ adds l.fn.left.items

abbrev pub decreases-loop-changes : goal.decreases-loop-changes
decreases-loop-changes l = length l.left.items
