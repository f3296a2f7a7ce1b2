use Rattle.std.proofs.Common.{◌≡◌, ◌≤◌, List, ℕ}
use Rattle.std.specs.Option.{option_map}
use Rattle.ax_gap.specs.Reading.{first_gaps}
use Rattle.ax_gap.proofs.cursor.skip_gaps.Given as goal

pub record IsUnderWay (remaining bytes : List ℕ) (least many count : ℕ) : Type 0 where
  pub reads : option_map (λ found. found.1) (first_gaps least many remaining) ≡ option_map (λ found. found.1) (first_gaps 0 count bytes)
  pub fits : least ≤ 4294967296

abbrev pub invariant-loop-many : goal.invariant-loop-many
invariant-loop-many l = IsUnderWay l.remaining l.bytes l.least l.many l.count

abbrev pub decreases-loop-many : goal.decreases-loop-many
decreases-loop-many l = l.many
