use Rattle.std.proofs.Common.{take}
use Rattle.ax_delta.specs.Changes.{changed_pairs}
use Rattle.ax_index.specs.Planning.{AreBefore}
use Rattle.ax_index.proofs.runs.count_before.Given as goal

abbrev pub invariant-loop-i : goal.invariant-loop-i
invariant-loop-i l = AreBefore (changed_pairs (take l.i l.changes)) (record { term = l.term; number = l.number })
