-- A failure that was counted between two states was counted between an earlier and a later one.
use Rattle.std.proofs.Common.{ℕ, ◌≤◌, Result, arith}
use Rattle.ax_faults.specs.Faults.{Rose, HasCause}

pub rose_since : (earlier before now later : ℕ) → earlier ≤ before → now ≤ later → Rose before now
    → Rose earlier later
rose_since earlier before now later past on rose = omega (arith, past, on, rose)

module _ {T E : Type 0} where
  pub has_cause_since : (result : Result T E) (earlier before now later : ℕ) → earlier ≤ before
      → now ≤ later → HasCause result before now → HasCause result earlier later
  has_cause_since result earlier before now later past on cause = record {
    never_falls = omega (arith, past, on, cause.never_falls);
    failed = λ failed. rose_since earlier before now later past on (cause.failed failed);
  }
