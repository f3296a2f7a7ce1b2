-- What calls that read leave: the store as it was but for what reads change, and the bytes of slots that others have;
-- and when the store fails by them. It is this project's own; it comes from no public document.
use Rattle.std.specs.Prelude.{◌≡◌, ℕ, Bool, true, false, Result, Ok, Err}
use Rattle.ax_disk.specs.model.Moments.{History}
use Rattle.ax_cache.specs.Pages.{CachedPages}
use Rattle.ax_pool.specs.Frames.{Frames, IsTaken, bytes_at}
use Rattle.ax_store.specs.declared.store.Store.{Store}
use Rattle.ax_store.specs.declared.fault.StoreFault.{StoreFault}
use Rattle.ax_store.specs.declared.fault.StoreFault.TheVariants.{Disk, Damaged, Newer, Memory}
use Rattle.ax_store.specs.Faults.{HasDiskCause}
use Rattle.ax_store.specs.Reads.{ReadsStore}
use Rattle.ax_store.specs.Slots.{AreOthersSame}
use Rattle.ax_store.specs.Store.{store_failed, store_slots}

-- the store fails by this fault: exactly where it is of the disk
abbrev pub FailsWith : StoreFault → Bool → Bool → Type 0
FailsWith Disk old new = new ≡ true
FailsWith (Damaged extent at) old new = new ≡ old
FailsWith (Newer version) old new = new ≡ old
FailsWith Memory old new = new ≡ old

-- the store fails by this answer
abbrev pub FailsBy : {T : Type 0} → Result T StoreFault → Bool → Bool → Type 0
FailsBy (Ok value) old new = new ≡ old
FailsBy (Err fault) old new = FailsWith fault old new

-- the same slots are taken, and each of them has the bytes that it had
pub record KeepsTaken (old new : Frames) : Type 0 where
  pub taken : new.taken ≡ old.taken
  pub bytes : (number : ℕ) → IsTaken old number → bytes_at new number ≡ bytes_at old number

-- what a call that reads into the slot of this number leaves by its answer
pub record ReadsBy {C T : Type 0} (pages : C → CachedPages) (honest : Bool) (result : Result T StoreFault) (slot : ℕ) (old new : Store C)
    (before after : History) (earlier later : ℕ) : Type 0 where
  pub reads : ReadsStore pages honest old new before after earlier later
  pub others : AreOthersSame slot (store_slots old) (store_slots new)
  pub fails : FailsBy result (store_failed old) (store_failed new)
  pub cause : store_failed old ≡ false → HasDiskCause result earlier later
