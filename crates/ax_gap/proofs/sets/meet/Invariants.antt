use Rattle.std.proofs.Common.{◌+◌, ◌-◌, length}
use Rattle.ax_gap.proofs.Merging.{IsMerging, meet_of}
use Rattle.ax_gap.proofs.sets.meet.Given as goal

abbrev pub invariant-loop-i : goal.invariant-loop-i
invariant-loop-i l = IsMerging meet_of l.both.items l.a l.b l.i l.j

abbrev pub decreases-loop-i : goal.decreases-loop-i
decreases-loop-i l = (length l.a - l.i) + (length l.b - l.j)
