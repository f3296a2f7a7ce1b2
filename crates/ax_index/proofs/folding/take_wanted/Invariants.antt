use Rattle.std.proofs.Common.{◌≡◌, ◌++◌, length}
use Rattle.ax_index.specs.Reading.{wanted_of}
use Rattle.ax_index.proofs.folding.take_wanted.Given as goal

abbrev pub invariant-loop-term : goal.invariant-loop-term
invariant-loop-term l = l.kept ++ wanted_of l.wanted l.cursor ≡ wanted_of l.wanted l.fn.cursor

abbrev pub decreases-loop-term : goal.decreases-loop-term
decreases-loop-term l = length l.cursor
