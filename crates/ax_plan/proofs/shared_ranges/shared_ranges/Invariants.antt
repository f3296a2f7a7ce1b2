-- What was appended, and what the rest shares with the others, is what all share with them.
use Rattle.std.proofs.Common.{◌≡◌, ◌++◌, drop}
use Rattle.ax_plan.specs.Combining.{shared}
use Rattle.ax_plan.proofs.shared_ranges.shared_ranges.Given as goal

abbrev pub invariant-loop-range : goal.invariant-loop-range
invariant-loop-range l =
    l.both.items ++ shared (drop l.range-index l.ranges) l.others ≡ shared l.fn.ranges l.fn.others
