-- What was appended, and what the rest shares with the range, is what all share with it.
use Rattle.std.proofs.Common.{◌≡◌, ◌++◌, drop}
use Rattle.ax_plan.specs.Combining.{parts_within}
use Rattle.ax_plan.proofs.shared_ranges.append_parts_within.Given as goal

abbrev pub invariant-loop-other : goal.invariant-loop-other
invariant-loop-other l =
    l.both.items ++ parts_within l.range (drop l.other-index l.others) ≡ l.initial.both.items ++ parts_within l.range l.others
