use Rattle.std.proofs.Common.{ℕ, ◌+◌, ◌≤◌, length}
use Rattle.ax_index.specs.PageSizes.{TakePages, rest_of}
use Rattle.ax_index.proofs.sizes.new_pages.Given as goal

abbrev pub invariant-loop-rest : goal.invariant-loop-rest
invariant-loop-rest l = record {
  few : l.count + length l.rest ≤ length l.pairs;
  take : (k : ℕ) → TakePages k l.rest → TakePages (l.count + k) (rest_of l.pairs);
}

abbrev pub decreases-loop-rest : goal.decreases-loop-rest
decreases-loop-rest l = length l.rest
