use Rattle.std.proofs.Common.{◌≡◌, length}
use Rattle.ax_gap.proofs.Rising.{RisesFrom}
use Rattle.ax_delta.specs.Said.{has_number}
use Rattle.ax_index.proofs.number_lookup.has_one.Given as goal

abbrev pub invariant-loop-found : goal.invariant-loop-found
invariant-loop-found l = record {
  rises : RisesFrom 0 l.left.numbers;
  same : has_number l.number l.left.numbers ≡ has_number l.number l.fn.list.numbers;
}

abbrev pub decreases-loop-found : goal.decreases-loop-found
decreases-loop-found l = length l.left.numbers
