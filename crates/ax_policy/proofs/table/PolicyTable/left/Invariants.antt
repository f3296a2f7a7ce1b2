-- Those so far and those of the numbers that are left make the whole.
use Rattle.std.proofs.Common.{◌≡◌, ◌+◌, ◌*◌, ◌≤◌, drop, sum_by}
use Rattle.ax_policy.specs.Table as spec
use Rattle.ax_policy.proofs.table.PolicyTable.left.Given as goal

abbrev pub invariant-loop-number : goal.invariant-loop-number
invariant-loop-number l = record {
  few : l.left ≤ l.number-index * 1048576;
  made : l.left + sum_by (spec.count_unless_now l.self) (drop l.number-index l.number-items)
      ≡ sum_by (spec.count_unless_now l.self) l.number-items;
}
