-- The members so far and those of the entries that are left make the whole.
use Rattle.std.proofs.Common.{◌≡◌, ◌++◌}
use Rattle.ax_policy.proofs.RuleMaps.{rules_in}
use Rattle.ax_policy.proofs.read_rules.members_from.Given as goal

abbrev pub invariant-loop-name : goal.invariant-loop-name
invariant-loop-name l = record {
  next : (goal.iterator-loop-name).can_next l.name-iterator;
  finite : (goal.iterator-loop-name).is_finite l.name-iterator;
  made : l.members.items ++ rules_in l.name-iterator ≡ rules_in l.fn.rules.entries;
}
