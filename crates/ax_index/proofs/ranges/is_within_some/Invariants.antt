use Rattle.std.proofs.Common.{◌≡◌, drop}
use Rattle.ax_index.specs.Wanted.{is_in_some}
use Rattle.ax_index.proofs.ranges.is_within_some.Given as goal

abbrev pub invariant-loop-range : goal.invariant-loop-range
invariant-loop-range l = is_in_some (drop l.range-index l.ranges) l.term ≡ is_in_some l.ranges l.term
