-- The orders so far, before those that are left, are all orders.
use Rattle.std.proofs.Common.{◌≡◌, ◌++◌, map}
use Rattle.std.specs.Vec.Iter.{into_iter_items}
use Rattle.ax_grammar.specs.Made.{order_made}
use Rattle.ax_scope.specs.AsWritten.{ordered_of}
use Rattle.ax_scope.proofs.make.orders_made.Given as goal

abbrev pub invariant-loop-ordered : goal.invariant-loop-ordered
invariant-loop-ordered l = record {
  next : (goal.iterator-loop-ordered).can_next l.ordered-iterator;
  finite : (goal.iterator-loop-ordered).is_finite l.ordered-iterator;
  made : l.made ++ map order_made (map ordered_of (into_iter_items l.ordered-iterator))
      ≡ map order_made (map ordered_of l.fn.orders);
}
