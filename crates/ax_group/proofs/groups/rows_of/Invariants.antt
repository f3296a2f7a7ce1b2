-- The rows so far, and those of the groups to come.
use Rattle.std.proofs.Common.{◌≡◌, ◌++◌, filter_map}
use Rattle.ax_group.specs.declared.key.GroupKey.{GroupKey}
use Rattle.ax_group.specs.declared.state.State.{State}
use Rattle.ax_group.specs.States.{state_row}
use Rattle.ax_group.proofs.groups.rows_of.Given as goal

abbrev pub invariant-loop-key : goal.invariant-loop-key
invariant-loop-key l = record {
  next : (goal.iterator-loop-key).can_next l.key-iterator;
  finite : (goal.iterator-loop-key).is_finite l.key-iterator;
  made : l.rows.items
      ++ filter_map (λ (entry : GroupKey × State). state_row l.pick entry.1) l.key-iterator
      ≡ filter_map (λ (entry : GroupKey × State). state_row l.pick entry.1) l.fn.states.entries;
}
