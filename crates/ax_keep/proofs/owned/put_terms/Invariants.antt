use Rattle.std.proofs.Common.{◌≡◌, ◌++◌}
use Rattle.std.specs.Vec.Iter.{into_iter_items}
use Rattle.ax_keep.specs.Owned.{with_number}
use Rattle.ax_keep.proofs.owned.put_terms.Given as goal

abbrev pub invariant-loop-term : goal.invariant-loop-term
invariant-loop-term l = record {
  next : (goal.iterator-loop-term).can_next l.term-iterator;
  finite : (goal.iterator-loop-term).is_finite l.term-iterator;
  put : l.pairs.items ++ with_number l.number (into_iter_items l.term-iterator) ≡ l.fn.pairs.items ++ with_number l.number l.fn.terms.items;
}
