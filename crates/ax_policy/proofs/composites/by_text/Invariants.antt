-- Those so far, with what is left put among them, are all.
use Rattle.std.proofs.Common.{◌≡◌}
use Rattle.std.specs.List.{fold}
use Rattle.std.specs.Vec.Iter.{into_iter_items}
use Rattle.ax_policy.specs.Composites as spec
use Rattle.ax_policy.proofs.composites.by_text.Given as goal

abbrev pub invariant-loop-composite : goal.invariant-loop-composite
invariant-loop-composite l = record {
  next : (goal.iterator-loop-composite).can_next l.composite-iterator;
  finite : (goal.iterator-loop-composite).is_finite l.composite-iterator;
  made : fold spec.with_composite l.ordered.items (into_iter_items l.composite-iterator)
      ≡ spec.by_text l.fn.composites;
}
