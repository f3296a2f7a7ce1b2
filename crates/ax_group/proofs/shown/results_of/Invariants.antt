-- The values so far, and those of the tallies to come.
use Rattle.std.proofs.Common.{◌≡◌, ◌++◌, map}
use Rattle.std.specs.Vec.Iter.{into_iter_items}
use Rattle.ax_group.specs.Tallies.{value_of}
use Rattle.ax_group.proofs.shown.results_of.Given as goal

abbrev pub invariant-loop-tally : goal.invariant-loop-tally
invariant-loop-tally l = record {
  next : (goal.iterator-loop-tally).can_next l.tally-iterator;
  finite : (goal.iterator-loop-tally).is_finite l.tally-iterator;
  made : l.values.items ++ map value_of (into_iter_items l.tally-iterator)
      ≡ map value_of l.fn.tallies.items;
}
