-- As many as numbers were passed.
use Rattle.std.proofs.Common.{◌≡◌, replicate}
use Rattle.ax_policy.specs.Table.{no_slot}
use Rattle.ax_policy.proofs.table.empty_slots.Given as goal

abbrev pub invariant-loop-number : goal.invariant-loop-number
invariant-loop-number l = l.slots.items ≡ replicate l._number-index no_slot
