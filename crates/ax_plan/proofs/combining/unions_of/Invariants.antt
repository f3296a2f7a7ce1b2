-- The ranges of those that were gone over, and of the rest, are those of all.
use Rattle.std.proofs.Common.{◌≡◌, ◌++◌, map}
use Rattle.std.specs.Vec.Iter.{into_iter_items}
use Rattle.ax_plan.specs.declared.sought.Sought.{Sought}
use Rattle.ax_plan.proofs.combining.unions_of.Given as goal

abbrev pub invariant-loop-sought : goal.invariant-loop-sought
invariant-loop-sought l = record {
  next : (goal.iterator-loop-sought).can_next l.sought-iterator;
  finite : (goal.iterator-loop-sought).is_finite l.sought-iterator;
  all : l.unions.items ++ map (λ (s : Sought). s.ranges) (into_iter_items l.sought-iterator)
      ≡ map (λ (s : Sought). s.ranges) l.fn.all.items;
}
