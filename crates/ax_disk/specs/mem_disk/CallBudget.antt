-- The calls that a disk in memory may still answer, of which chosen ones fail.
use Rattle.std.specs.Prelude.{◌≡◌, ◌⊎◌, ℕ, ◌+◌, ◌-◌, ◌<◌, ◌==◌, min, Bool, true, false, List}
use Rattle.std.specs.List.{list_any}
use Rattle.ax_disk.specs.declared.outcome.Outcome.{Outcome}
use Rattle.ax_disk.specs.declared.outcome.Outcome.TheVariants.{Refused, Fails, Done}

pub record CallBudget : Type 0 where
  -- so many calls may still be made
  pub remaining : ℕ
  -- so many calls were made
  pub made : ℕ
  -- the numbers of the calls that fail, from 1
  pub failing : List ℕ

-- the number of the next call
abbrev pub next_call : CallBudget → ℕ
next_call calls = calls.made + 1

-- the next call is numbered to fail
abbrev pub fails_next : CallBudget → Bool
fails_next calls = list_any (λ number. number == next_call calls) calls.failing

-- the next call may be made, and is not numbered to fail
pub record Allows (calls : CallBudget) : Type 0 where
  pub remaining : 0 < calls.remaining
  pub unchosen : fails_next calls ≡ false

-- after the next call, which is made where one remains
abbrev pub after_call : CallBudget → CallBudget
after_call calls = record calls {
  remaining = calls.remaining - 1;
  made = calls.made + min 1 calls.remaining;
}

-- so the next call goes, where what it asks for fits or not
abbrev pub GoesSo : Bool → CallBudget → Outcome → Type 0
GoesSo fits calls Refused = (calls.remaining ≡ 0) ⊎ (fits ≡ false)
GoesSo fits calls Fails = (0 < calls.remaining) × (fits ≡ true) × (fails_next calls ≡ true)
GoesSo fits calls Done = (0 < calls.remaining) × (fits ≡ true) × (fails_next calls ≡ false)
