-- What calls of the store that read leave: the pages as they were, the agreement with the disk until the store has
-- failed, the disk's lists, and a count of faults that does not fall. And when they fail.
-- It is this project's own; it comes from no public document.
use Rattle.std.specs.Prelude.{◌≡◌, ◌⊎◌, ℕ, ◌≤◌, Bool, true, false, Result, Err, IsTrue, IfErr, OnOk, OnErr}
use Rattle.ax_disk.specs.model.Moments.{History}
use Rattle.ax_disk.specs.model.Calls.{Idles}
use Rattle.ax_cache.specs.Pages.{CachedPages}
use Rattle.ax_store.specs.declared.store.Store.{Store}
use Rattle.ax_store.specs.declared.fault.StoreFault.{StoreFault}
use Rattle.ax_store.specs.declared.fault.StoreFault.TheVariants.{Disk, Memory}
use Rattle.ax_store.specs.Faults.{HasDiskCause}
use Rattle.ax_store.specs.Store.{AgreesUnlessFailed, SameButReads}

-- of a call that reads
pub record ReadsStore {C : Type 0} (pages : C → CachedPages) (honest : Bool) (old new : Store C) (before after : History) (earlier later : ℕ) : Type 0 where
  pub same : SameButReads old new
  pub agrees : AgreesUnlessFailed pages honest new after
  pub lists : IsTrue honest → Idles before after
  pub never_falls : earlier ≤ later

-- Of a call whose only error is that the disk failed: the store works where it is Ok, and has failed where it is not.
pub record FailsAlone {T : Type 0} (result : Result T StoreFault) (failed_old failed_new : Bool) (earlier later : ℕ) : Type 0 where
  pub works : OnOk result (failed_new ≡ false)
  pub fails : OnErr result (failed_new ≡ true)
  pub disk_alone : IfErr result (λ fault. fault ≡ Disk)
  pub failed_before : failed_old ≡ true → result ≡ Err Disk
  pub cause : failed_old ≡ false → HasDiskCause result earlier later

-- Of one that may also want memory, where the store stays as it was: it has failed only where the disk did.
pub record FailsOrWantsMemory {T : Type 0} (result : Result T StoreFault) (failed_old failed_new : Bool) (earlier later : ℕ) : Type 0 where
  pub works : OnOk result (failed_new ≡ false)
  pub fails : result ≡ Err Disk → failed_new ≡ true
  pub memory : result ≡ Err Memory → failed_new ≡ failed_old
  pub only : IfErr result (λ fault. (fault ≡ Disk) ⊎ (fault ≡ Memory))
  pub failed_before : failed_old ≡ true → result ≡ Err Disk
  pub cause : failed_old ≡ false → HasDiskCause result earlier later
