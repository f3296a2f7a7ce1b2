-- What is seen, before the values left, is the whole.
use Rattle.std.proofs.Common.{◌≡◌, ◌++◌, drop}
use Rattle.ax_func.proofs.owned.seen_all.Given as goal

abbrev pub invariant-loop-value : goal.invariant-loop-value
invariant-loop-value l = l.seen.items ++ drop l.value-index l.values ≡ l.values
