-- When a call of the store answers that the disk failed: where the disk's count of faults rose in that call, and
-- nowhere else. It is this project's own; it comes from no public document.
use Rattle.std.specs.Prelude.{◌≡◌, ◌≤◌, ℕ, Result, Ok, Err}
use Rattle.ax_faults.specs.Faults.{Rose}
use Rattle.ax_store.specs.declared.fault.StoreFault.{StoreFault}
use Rattle.ax_store.specs.declared.fault.StoreFault.TheVariants.{Disk, Damaged, Newer, Memory}

-- the answer is that the disk failed
abbrev pub IsDiskFault : StoreFault → Type 0
IsDiskFault Disk = Unit {0}
IsDiskFault (Damaged extent at) = ⊥
IsDiskFault (Newer version) = ⊥
IsDiskFault Memory = ⊥

abbrev pub FailsByDisk : {T : Type 0} → Result T StoreFault → Type 0
FailsByDisk (Ok value) = ⊥
FailsByDisk (Err fault) = IsDiskFault fault

-- the store is damaged or of a later version
abbrev pub IsRefusal : StoreFault → Type 0
IsRefusal Disk = ⊥
IsRefusal (Damaged extent at) = Unit {0}
IsRefusal (Newer version) = Unit {0}
IsRefusal Memory = ⊥

abbrev pub IsRefused : {T : Type 0} → Result T StoreFault → Type 0
IsRefused (Ok value) = ⊥
IsRefused (Err fault) = IsRefusal fault

-- so it is of a fault, unless it is that the disk failed
abbrev pub unless_disk : StoreFault → Type 0 → Type 0
unless_disk Disk so = Unit {0}
unless_disk (Damaged extent at) so = so
unless_disk (Newer version) so = so
unless_disk Memory so = so

-- so it is where the answer is another than that the disk failed
abbrev pub UnlessDisk : {T : Type 0} → Result T StoreFault → Type 0 → Type 0
UnlessDisk (Ok value) so = so
UnlessDisk (Err fault) so = unless_disk fault so

-- The count doesn't fall, a failure of the disk is answered only where it rose, and where anything else is answered it
-- is as it was.
pub record HasDiskCause {T : Type 0} (result : Result T StoreFault) (before now : ℕ) : Type 0 where
  pub never_falls : before ≤ now
  pub failed : FailsByDisk result → Rose before now
  pub uncounted : UnlessDisk result (now ≡ before)
