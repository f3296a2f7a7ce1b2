-- The first tallies have their values; the others have theirs to come.
use Rattle.std.proofs.Common.{◌≡◌, ◌≤◌, ◌++◌, length, take, drop}
use Rattle.std.specs.Vec.Iter.{into_iter_items}
use Rattle.ax_group.specs.States.{tallies_with}
use Rattle.ax_group.proofs.state.add_all.Given as goal

abbrev pub invariant-loop-value : goal.invariant-loop-value
invariant-loop-value l = record {
  next : (goal.iterator-loop-value).can_next l.value-iterator;
  finite : (goal.iterator-loop-value).is_finite l.value-iterator;
  within : l.at ≤ length l.tallies.items;
  made : take l.at l.tallies.items
      ++ tallies_with (drop l.at l.tallies.items) (into_iter_items l.value-iterator)
      ≡ tallies_with l.fn.tallies.items l.fn.values.items;
}
