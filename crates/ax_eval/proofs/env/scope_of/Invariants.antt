-- What is bound, before the pairs left, is the whole.
use Rattle.std.proofs.Common.{◌≡◌, ◌++◌, drop}
use Rattle.ax_eval.proofs.env.scope_of.Given as goal

abbrev pub invariant-loop-pair : goal.invariant-loop-pair
invariant-loop-pair l = l.scope ++ drop l.pair-index l.pairs ≡ l.pairs
