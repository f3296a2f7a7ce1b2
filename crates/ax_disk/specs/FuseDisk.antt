-- What a fuse shows, and what it does at a call.
use Rattle.std.specs.Prelude.{◌≡◌, ℕ, ◌+◌, ◌-◌, ◌<◌, List, Option, Result, IsErr}
use Rattle.ax_faults.specs.Faults.{raised, HasCause}
use Rattle.ax_disk.specs.declared.fuse_disk.FuseDisk.{FuseDisk}
use Rattle.ax_disk.specs.model.Moments.{History}
use Rattle.ax_disk.specs.CallLimit.{one_call_less}

-- the disk beneath it
abbrev pub inner_of : {D : Type 0} → FuseDisk D → D
inner_of fuse = fuse.inner

-- it passes so many calls more
abbrev pub calls_remaining_of : {D : Type 0} → FuseDisk D → ℕ
calls_remaining_of fuse = fuse.calls_remaining

-- it has failed so many calls itself
abbrev pub refusals_of : {D : Type 0} → FuseDisk D → ℕ
refusals_of fuse = fuse.refusals

-- what the disk beneath tells of the store attached
abbrev pub history_beneath : {D : Type 0} → (D → List ℕ → History) → (D → List ℕ) → FuseDisk D
    → History
history_beneath history attached fuse = history fuse.inner (attached fuse.inner)

-- the faults of the disk beneath and the fuse's own
abbrev pub all_faults : {D : Type 0} → (D → ℕ) → FuseDisk D → ℕ
all_faults faults fuse = faults fuse.inner + fuse.refusals

-- Where a call remains, the disk beneath answers one call, which fails only by that disk's own
-- count of faults, and the fuse refuses nothing. Where none remains, the fuse fails the call,
-- counts it, and leaves the disk beneath as it was.
pub record PassesOn {D T E : Type 0} (faults : D → ℕ) (remaining : D → Option ℕ)
    (result : Result T E) (old new : FuseDisk D) : Type 0 where
  pub spent : calls_remaining_of new ≡ calls_remaining_of old - 1
  pub cause : 0 < calls_remaining_of old
      → HasCause result (faults (inner_of old)) (faults (inner_of new))
  pub one_call : 0 < calls_remaining_of old
      → remaining (inner_of new) ≡ one_call_less (remaining (inner_of old))
  pub no_refusal : 0 < calls_remaining_of old → refusals_of new ≡ refusals_of old
  pub blown : calls_remaining_of old ≡ 0 → IsErr result
  pub alone : calls_remaining_of old ≡ 0 → inner_of new ≡ inner_of old
  pub refusal : calls_remaining_of old ≡ 0 → refusals_of new ≡ raised (refusals_of old)
