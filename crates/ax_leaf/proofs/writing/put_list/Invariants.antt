use Rattle.std.proofs.Common.{◌+◌, ◌≤◌, drop}
use Rattle.ax_leaf.specs.Pairs.{postings_from, postings_of}
use Rattle.ax_leaf.proofs.Steps.{IsUnderWay}
use Rattle.ax_leaf.proofs.writing.put_list.Given as goal

abbrev pub invariant-loop-i : goal.invariant-loop-i
invariant-loop-i l =
    IsUnderWay l.fn.out.items l.out.items l.last (postings_from l.term l.numbers.items (drop l.i l.pairs)) (postings_of l.pairs) l.count
    × (l.count + 1 ≤ l.i)
