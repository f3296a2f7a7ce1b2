-- What the rest gives, behind what is there, is what all give.
use Rattle.std.proofs.Common.{◌++◌, List}
use Rattle.std.specs.Vec.Iter.{into_iter_items}
use Rattle.ax_plan.specs.ByPaths.{AreOfConjuncts}
use Rattle.ax_plan.specs.declared.sought.Sought.{Sought}
use Rattle.ax_plan.proofs.planning.usable.Given as goal

abbrev pub invariant-loop-conjunct : goal.invariant-loop-conjunct
invariant-loop-conjunct l = record {
  next : (goal.iterator-loop-conjunct).can_next l.conjunct-iterator;
  finite : (goal.iterator-loop-conjunct).is_finite l.conjunct-iterator;
  taken : (sought : List Sought) → AreOfConjuncts l.table (into_iter_items l.conjunct-iterator) sought
      → AreOfConjuncts l.table l.fn.found.items (l.sought.items ++ sought);
}
