-- The items that are named so far, before those that are left, are all named items.
use Rattle.std.proofs.Common.{◌≡◌, ◌≤◌, ◌+◌, ◌++◌, map, length}
use Rattle.std.specs.Vec.Iter.{into_iter_items}
use Rattle.ax_grammar.specs.Names.{named_from, named_items}
use Rattle.ax_scope.specs.AsWritten.{item_of}
use Rattle.ax_scope.proofs.make.named_items.Given as goal

abbrev pub invariant-loop-item : goal.invariant-loop-item
invariant-loop-item l = record {
  next : (goal.iterator-loop-item).can_next l.item-iterator;
  finite : (goal.iterator-loop-item).is_finite l.item-iterator;
  small : l.number + length (into_iter_items l.item-iterator) ≤ l.count + 1;
  made : l.named.items ++ named_from l.number (map item_of (into_iter_items l.item-iterator))
      ≡ named_items (map item_of l.fn.items);
}
