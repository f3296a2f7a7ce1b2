-- Those so far, with what the numbers that are left add to them, are the whole.
use Rattle.std.proofs.Common.{◌≡◌, ◌≤◌, drop}
use Rattle.ax_policy.specs.NumberUses.{with_uses, nothing_found}
use Rattle.ax_policy.proofs.table.PolicyTable.numbers_found.Given as goal

abbrev pub invariant-loop-number : goal.invariant-loop-number
invariant-loop-number l = record {
  few : l.found.others ≤ l.number-index;
  made : with_uses l.text l.self l.found (drop l.number-index l.number-items)
      ≡ with_uses l.text l.self nothing_found l.number-items;
}
