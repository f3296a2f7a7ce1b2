-- the policies of the numbers before this one cover the path
use Rattle.std.proofs.Common.{ℕ, ◌<◌}
use Rattle.ax_plan.specs.ByPaths.{CoversPath, HoldsAt}
use Rattle.ax_plan.proofs.covering.all_cover.Given as goal

abbrev pub invariant-loop-number : goal.invariant-loop-number
invariant-loop-number l = (number : ℕ) → number < l.number → HoldsAt l.table (CoversPath l.whole l.path) number
