-- What was put together goes on with the rest as it began with all.
use Rattle.std.proofs.Common.{◌≡◌, []}
use Rattle.std.specs.Vec.Iter.{into_iter_items}
use Rattle.ax_plan.specs.Combining.{put_all}
use Rattle.ax_plan.proofs.combining.combined.Given as goal

abbrev pub invariant-loop-new : goal.invariant-loop-new
invariant-loop-new l = record {
  next : (goal.iterator-loop-new).can_next l.new-iterator;
  finite : (goal.iterator-loop-new).is_finite l.new-iterator;
  all : put_all l.all.items (into_iter_items l.new-iterator) ≡ put_all [] l.fn.sought.items;
}
