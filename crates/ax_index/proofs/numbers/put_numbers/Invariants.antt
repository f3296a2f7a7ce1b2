use Rattle.std.proofs.Common.{◌≡◌, ◌++◌, drop}
use Rattle.ax_index.specs.Reading.{numbers_of}
use Rattle.ax_index.proofs.numbers.put_numbers.Given as goal

abbrev pub invariant-loop-at : goal.invariant-loop-at
invariant-loop-at l = l.numbers.items ++ numbers_of l.ranges (drop l.at l.pairs) ≡ l.fn.numbers.items ++ numbers_of l.ranges l.pairs
