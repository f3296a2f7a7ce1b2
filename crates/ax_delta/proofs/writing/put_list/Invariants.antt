use Rattle.std.proofs.Common.{◌+◌, ◌≤◌, drop}
use Rattle.ax_delta.specs.Changes.{term_changes_from, term_changes_of}
use Rattle.ax_delta.proofs.Steps.{IsUnderWay}
use Rattle.ax_delta.proofs.writing.put_list.Given as goal

abbrev pub invariant-loop-i : goal.invariant-loop-i
invariant-loop-i l =
    IsUnderWay l.fn.out.items l.out.items l.last (term_changes_from l.term l.added.items l.dropped.items (drop l.i l.changes))
    (term_changes_of l.changes) l.count
    × (l.count + 1 ≤ l.i)
