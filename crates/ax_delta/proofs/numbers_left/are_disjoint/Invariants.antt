use Rattle.std.proofs.Common.{◌+◌, length}
use Rattle.ax_delta.proofs.Numbers.{AreLeft}
use Rattle.ax_delta.proofs.numbers_left.are_disjoint.Given as goal

abbrev pub invariant-loop-number : goal.invariant-loop-number
invariant-loop-number l = AreLeft l.added l.dropped l.fn.added.numbers l.fn.dropped.numbers

abbrev pub decreases-loop-number : goal.decreases-loop-number
decreases-loop-number l = length l.added + length l.dropped
