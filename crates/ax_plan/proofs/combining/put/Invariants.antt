-- What is done, and what is left put among the rest, is the new one put among all.
use Rattle.std.proofs.Common.{◌≡◌, ◌++◌}
use Rattle.std.specs.Vec.Iter.{into_iter_items}
use Rattle.ax_plan.specs.Combining.{put}
use Rattle.ax_plan.proofs.combining.put.Given as goal

abbrev pub invariant-loop-old : goal.invariant-loop-old
invariant-loop-old l = record {
  next : (goal.iterator-loop-old).can_next l.old-iterator;
  finite : (goal.iterator-loop-old).is_finite l.old-iterator;
  all : l.done.items ++ put l.left (into_iter_items l.old-iterator) ≡ put l.fn.new l.fn.all.items;
}
