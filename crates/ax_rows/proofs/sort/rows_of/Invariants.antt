-- The rows so far, and those to come.
use Rattle.std.proofs.Common.{◌≡◌, ◌++◌, map}
use Rattle.std.specs.Vec.Iter.{into_iter_items}
use Rattle.ax_rows.specs.declared.ranked.Ranked.{Ranked}
use Rattle.ax_rows.proofs.sort.rows_of.Given as goal

abbrev pub invariant-loop-ranked : goal.invariant-loop-ranked
invariant-loop-ranked l = record {
  next : (goal.iterator-loop-ranked).can_next l.ranked-iterator;
  finite : (goal.iterator-loop-ranked).is_finite l.ranked-iterator;
  made : l.rows.items ++ map (λ (r : Ranked). r.row) (into_iter_items l.ranked-iterator)
      ≡ map (λ (r : Ranked). r.row) l.fn.ranked.items;
}
