use Rattle.std.proofs.Common.{◌≡◌, drop}
use Rattle.ax_candidates.specs.Points.{are_of_one_term}
use Rattle.ax_candidates.proofs.points.are_points.Given as goal

abbrev pub invariant-loop-range : goal.invariant-loop-range
invariant-loop-range l = are_of_one_term (drop l.range-index l.ranges) ≡ are_of_one_term l.ranges
