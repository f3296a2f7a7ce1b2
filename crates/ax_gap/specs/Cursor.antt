-- How the fields of a cursor stand for the numbers that it has still to give. Callers see
-- `RemainingGaps` alone.
use Rattle.std.specs.Prelude.{ℕ, ◌≤◌, ◌^◌, List, [], Option, Some, None, IsSome}
use Rattle.ax_gap.specs.Reading.{first_gaps}
use Rattle.ax_gap.specs.Remaining.{RemainingGaps}
use Rattle.ax_gap.specs.declared.cursor.GapCursor.TheInside.{Inside}

-- the numbers that were read, if they were
abbrev pub numbers_of : Option (List ℕ × List ℕ) → List ℕ
numbers_of None = []
numbers_of (Some found) = found.0

abbrev pub remaining_gaps : Inside → RemainingGaps
remaining_gaps c = record { numbers = numbers_of (first_gaps c.least c.count c.bytes.now); used = c.used }

-- the remaining bytes begin with the gaps of all the remaining numbers
pub record IsCursor (c : Inside) : Type 0 where
  pub reads : IsSome (first_gaps c.least c.count c.bytes.now)
  pub fits : c.least ≤ 2 ^ 32
