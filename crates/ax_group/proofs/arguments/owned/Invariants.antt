-- The values so far, and those to come.
use Rattle.std.proofs.Common.{◌≡◌, ◌++◌}
use Rattle.std.specs.Vec.Iter.{into_iter_items}
use Rattle.ax_group.proofs.arguments.owned.Given as goal

abbrev pub invariant-loop-value : goal.invariant-loop-value
invariant-loop-value l = record {
  next : (goal.iterator-loop-value).can_next l.value-iterator;
  finite : (goal.iterator-loop-value).is_finite l.value-iterator;
  made : l.made.items ++ into_iter_items l.value-iterator ≡ l.fn.values.items;
}
