-- The rows so far with their keys, and those to come.
use Rattle.std.proofs.Common.{◌≡◌, ◌++◌, map}
use Rattle.std.specs.Vec.Iter.{into_iter_items}
use Rattle.ax_rows.specs.SortKeys.{ranked}
use Rattle.ax_rows.proofs.sort.all_ranked.Given as goal

abbrev pub invariant-loop-row : goal.invariant-loop-row
invariant-loop-row l = record {
  next : (goal.iterator-loop-row).can_next l.row-iterator;
  finite : (goal.iterator-loop-row).is_finite l.row-iterator;
  made : l.ranked.items ++ map (ranked l.orders) (into_iter_items l.row-iterator)
      ≡ map (ranked l.orders) l.fn.rows.items;
}
