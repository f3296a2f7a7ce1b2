-- None so far has the name.
use Rattle.std.proofs.Common.{◌≡◌}
use Rattle.std.specs.Vec.Iter.{into_iter_items}
use Rattle.ax_tree.specs.Document.{value_of}
use Rattle.ax_eval.proofs.steps.moved_member.Given as goal

abbrev pub invariant-loop-member : goal.invariant-loop-member
invariant-loop-member l = record {
  next : (goal.iterator-loop-member).can_next l.member-iterator;
  finite : (goal.iterator-loop-member).is_finite l.member-iterator;
  left : value_of l.name (into_iter_items l.member-iterator) ≡ value_of l.name l.fn.members;
}
