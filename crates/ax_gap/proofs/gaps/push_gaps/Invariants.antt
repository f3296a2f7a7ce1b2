use Rattle.std.proofs.Common.{◌≡◌, ℕ, ◌≤◌, ◌++◌, take, length, drop, List}
use Rattle.ax_gap.specs.Gaps.{gaps_from}
use Rattle.ax_gap.proofs.Rising.{RisesFrom}
use Rattle.ax_gap.proofs.gaps.push_gaps.Given as goal

pub record IsUnderWay (old out gathered list : List ℕ) (count least index : ℕ) : Type 0 where
  pub written : out ++ take count gathered ++ gaps_from least (drop index list) ≡ old ++ gaps_from 0 list
  pub prefix : take (length old) out ≡ old
  pub rises : RisesFrom least (drop index list)
  pub within : count ≤ 256

abbrev pub invariant-loop-n : goal.invariant-loop-n
invariant-loop-n l = IsUnderWay l.fn.out.items l.out.items l.gathered l.list l.count l.least l.n-index
