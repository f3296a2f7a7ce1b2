-- What calls leave that read texts of documents: the pages as they were, the agreement with the disk
-- until a read has failed, and the disk's lists.
-- It is this project's own; it comes from no public document.
use Rattle.std.specs.Prelude.{◌≡◌, ℕ, ◌≤◌, Bool, true, false, IsTrue, Result, Ok, Err}
use Rattle.ax_cache.specs.Pages.{CachedPages}
use Rattle.ax_disk.specs.model.Calls.{Idles}
use Rattle.ax_disk.specs.model.Moments.{History}
use Rattle.ax_faults.specs.Faults.{Rose}
use Rattle.ax_store.specs.ReadAhead.{AgreesAhead}
use Rattle.ax_store.specs.Store.{SameButReads, store_failed, store_slots}
use Rattle.ax_store.specs.declared.fault.StoreFault.{StoreFault}
use Rattle.ax_store.specs.declared.fault.StoreFault.TheVariants as fault
use Rattle.ax_store.specs.declared.read_ahead.ReadAhead.{ReadAhead}
use Rattle.ax_store.specs.declared.store.Store.{Store}
use Rattle.ax_engine.specs.InPages.{IsOutsideAt}

-- the store has not failed, and agrees with a disk that is honest, as does what was read ahead
pub record IsReady {C : Type 0} (pages : C → CachedPages) (honest : Bool) (store : Store C) (ahead : ReadAhead) (history : History)
    : Type 0 where
  pub works : store_failed store ≡ false
  pub agrees : IsTrue honest → AgreesAhead pages store ahead history

-- no read failed, and the disk counted no fault
pub record Scanned {C : Type 0} (pages : C → CachedPages) (honest : Bool) (old new : Store C) (ahead : ReadAhead)
    (before after : History) (earlier later : ℕ) : Type 0 where
  pub same : SameButReads old new
  pub slots : store_slots new ≡ store_slots old
  pub ready : IsReady pages honest new ahead after
  pub lists : IsTrue honest → Idles before after
  pub uncounted : later ≡ earlier

-- a read failed, and so the store, and the disk's count of faults rose
pub record ReadFailed {C : Type 0} (honest : Bool) (old new : Store C) (before after : History)
    (earlier later : ℕ) : Type 0 where
  pub same : SameButReads old new
  pub slots : store_slots new ≡ store_slots old
  pub failed : store_failed new ≡ true
  pub lists : IsTrue honest → Idles before after
  pub never_falls : earlier ≤ later
  pub rose : Rose earlier later

-- what a fault leaves, and where it is that of a text
abbrev pub ScanFails : {C : Type 0} → (C → CachedPages) → Bool → StoreFault → Store C → Store C → ReadAhead
    → History → History → ℕ → ℕ → Type 0
ScanFails pages honest fault.Disk old new ahead before after earlier later =
    ReadFailed honest old new before after earlier later
ScanFails pages honest (fault.Damaged extent at) old new ahead before after earlier later =
    Scanned pages honest old new ahead before after earlier later × (IsTrue honest → IsOutsideAt new extent at)
ScanFails pages honest (fault.Newer version) old new ahead before after earlier later = ⊥
ScanFails pages honest fault.Memory old new ahead before after earlier later =
    Scanned pages honest old new ahead before after earlier later

abbrev pub Scans : {T C : Type 0} → (C → CachedPages) → Bool → Result T StoreFault → Store C → Store C → ReadAhead
    → History → History → ℕ → ℕ → Type 0
Scans pages honest (Ok value) old new ahead before after earlier later =
    Scanned pages honest old new ahead before after earlier later
Scans pages honest (Err fault) old new ahead before after earlier later =
    ScanFails pages honest fault old new ahead before after earlier later
