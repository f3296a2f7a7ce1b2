-- What is made so far, before what is made of the rest, is what is made of the whole.
use Rattle.std.proofs.Common.{◌≡◌, ◌++◌}
use Rattle.std.specs.Vec.Iter.{into_iter_items}
use Rattle.serde_json.specs.View.{items_view, members_view}
use Rattle.ax_tree.specs.Names.{names}
use Rattle.ax_text.specs.TreeOf.{items_of, members_of}
use Rattle.ax_text.proofs.Entries.{entry_names}
use Rattle.ax_text.proofs.Joined.{joined}
use Rattle.ax_text.proofs.read.+read.Given as goal

abbrev pub invariant-items_from-loop-value : goal.invariant-items_from-loop-value
invariant-items_from-loop-value l = record {
  next : (goal.iterator-items_from-loop-value).can_next l.value-iterator;
  finite : (goal.iterator-items_from-loop-value).is_finite l.value-iterator;
  made : joined l.items.items (items_of (items_view (into_iter_items l.value-iterator))) ≡ items_of
      (items_view l.fn.values.items);
}

abbrev pub invariant-members_from-loop-name : goal.invariant-members_from-loop-name
invariant-members_from-loop-name l = record {
  next : (goal.iterator-members_from-loop-name).can_next l.name-iterator;
  finite : (goal.iterator-members_from-loop-name).is_finite l.name-iterator;
  made : joined l.members.items (members_of (members_view l.name-iterator)) ≡ members_of
      (members_view l.fn.entries.entries);
  names : names l.members.items ++ entry_names l.name-iterator ≡ entry_names l.fn.entries.entries;
}
