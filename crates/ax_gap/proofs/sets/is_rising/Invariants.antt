use Rattle.std.proofs.Common.{ℕ, ◌+◌, ◌<◌, length, get_or}
use Rattle.ax_gap.proofs.sets.is_rising.Given as goal

abbrev pub invariant-loop-i : goal.invariant-loop-i
invariant-loop-i l = (k : ℕ) → k + 1 < l.i → k + 1 < length l.list → get_or l.list k 0 < get_or l.list (k + 1) 0
