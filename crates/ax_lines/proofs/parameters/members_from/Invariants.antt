-- The members so far and those of the entries that are left make the whole.
use Rattle.std.proofs.Common.{◌≡◌, ◌++◌}
use Rattle.ax_lines.proofs.Written.{members_of}
use Rattle.ax_lines.proofs.parameters.members_from.Given as goal

abbrev pub invariant-loop-name : goal.invariant-loop-name
invariant-loop-name l = record {
  next : (goal.iterator-loop-name).can_next l.name-iterator;
  finite : (goal.iterator-loop-name).is_finite l.name-iterator;
  made : l.members.items ++ members_of l.name-iterator ≡ members_of l.fn.values.entries;
}
