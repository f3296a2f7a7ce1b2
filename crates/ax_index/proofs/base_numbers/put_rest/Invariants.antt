use Rattle.std.proofs.Common.{◌≡◌, ◌++◌, length}
use Rattle.ax_index.specs.Reading.{numbers_of}
use Rattle.ax_index.proofs.base_numbers.put_rest.Given as goal

abbrev pub invariant-loop-term : goal.invariant-loop-term
invariant-loop-term l = l.numbers.items ++ numbers_of l.ranges l.cursor ≡ l.fn.numbers.items ++ numbers_of l.ranges l.fn.cursor

abbrev pub decreases-loop-term : goal.decreases-loop-term
decreases-loop-term l = length l.cursor
