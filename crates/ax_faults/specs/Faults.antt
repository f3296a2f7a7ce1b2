-- Counts of faults, as a source, a sink and a disk keep them.
-- A count is that of a `u64` that is raised by one at each failure and stays at its last value,
-- 2^64 - 1. It is this project's own; it comes from no public document.
use Rattle.std.specs.Prelude.{◌≡◌, ℕ, ◌+◌, ◌-◌, ◌^◌, ◌≤◌, min, Result, IsErr, OnOk, OnErr}

-- the next value of a count
abbrev pub raised : ℕ → ℕ
raised count = min (count + 1) (2 ^ 64 - 1)

-- the count rose; one that stands at its last value counts as risen
abbrev pub Rose : ℕ → ℕ → Type 0
Rose before now = raised before ≤ now

-- the count doesn't fall, and a call fails only where it rose
pub record HasCause {T E : Type 0} (result : Result T E) (before now : ℕ) : Type 0 where
  pub never_falls : before ≤ now
  pub failed : IsErr result → Rose before now

-- a call that succeeds leaves the count as it was, and one that fails raises it by one
pub record CountsOnce {T E : Type 0} (result : Result T E) (before now : ℕ) : Type 0 where
  pub ok : OnOk result (now ≡ before)
  pub err : OnErr result (now ≡ raised before)
