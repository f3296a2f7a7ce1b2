use Rattle.ax_gap.proofs.Long.{IsUnderWay}
use Rattle.ax_gap.proofs.varint.split_longer.Given as goal

abbrev pub invariant-loop-i : goal.invariant-loop-i
invariant-loop-i l = IsUnderWay l.low l.scale l.i l.bytes
