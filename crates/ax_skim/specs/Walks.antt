-- A walk over the brackets of a block, bit by bit.
use Rattle.std.specs.Prelude.{◌+◌, ◌<◌, ◌≤◌, ℕ, zero, suc, ◌-◌, ◌==◌, if◌then◌else◌}
use Rattle.json.specs.Scan.{test}
use Rattle.ax_skim.specs.declared.walking.Walked.{Walked}
use Rattle.ax_skim.specs.declared.walking.Walked.TheVariants.{Closed, Open}

pub data Walk : Type 0 where
  closed : ℕ → Walk
  goes_on : ℕ → Walk

abbrev pub walk_of : Walked → Walk
walk_of (Closed at) = closed at
walk_of (Open depth) = goes_on depth

-- so many bits from that place on
abbrev pub walk_from : ℕ → ℕ → ℕ → ℕ → ℕ → Walk
walk_from brackets opens zero at depth = goes_on depth
walk_from brackets opens (suc n) at depth =
    if test brackets at
    then if test opens at then walk_from brackets opens n (suc at) (suc depth)
    else if depth == 1 then closed at else walk_from brackets opens n (suc at) (depth - 1)
    else walk_from brackets opens n (suc at) depth

abbrev pub HasBounds : ℕ → Walked → Type 0
HasBounds depth (Closed at) = at < 64
HasBounds depth (Open more) = (1 ≤ more) × (more ≤ depth + 64)
