use Rattle.std.proofs.Common.{◌≡◌, ◌⊎◌, ℕ, List, true, drop}
use Rattle.std.specs.Option.{option_copied}
use Rattle.ax_index.specs.Reading.{IsTermUpTo, StartsUpTo}
use Rattle.ax_index.specs.Wanted.{is_in_some}
use Rattle.ax_index.proofs.ranges.least_start.Given as goal

abbrev pub invariant-loop-range : goal.invariant-loop-range
invariant-loop-range l = (other : List ℕ) → is_in_some l.ranges other ≡ true → IsTermUpTo l.term other
    → StartsUpTo (option_copied l.start) other ⊎ (is_in_some (drop l.range-index l.ranges) other ≡ true)
