-- When a call of the log answers that the disk failed: where the disk's count of faults rose in that call, and
-- nowhere else. It is this project's own; it comes from no public document.
use Rattle.std.specs.Prelude.{◌≡◌, ◌≤◌, ℕ, Result, Ok, Err}
use Rattle.ax_faults.specs.Faults.{Rose}
use Rattle.ax_log.specs.declared.fault.LogFault.{LogFault}
use Rattle.ax_log.specs.declared.fault.LogFault.TheVariants.{Disk, Damaged, Newer, Memory}

-- the answer is that the disk failed
abbrev pub IsDiskFault : LogFault → Type 0
IsDiskFault Disk = Unit {0}
IsDiskFault (Damaged extent at) = ⊥
IsDiskFault (Newer version) = ⊥
IsDiskFault Memory = ⊥

abbrev pub FailsByDisk : {T : Type 0} → Result T LogFault → Type 0
FailsByDisk (Ok value) = ⊥
FailsByDisk (Err fault) = IsDiskFault fault

-- any other error: damage, a later version, or want of memory
abbrev pub FailsOtherwise : {T : Type 0} → Result T LogFault → Type 0
FailsOtherwise (Ok value) = ⊥
FailsOtherwise (Err fault) = IsDiskFault fault → ⊥

-- so it is of a fault, unless it is that the disk failed
abbrev pub unless_disk : LogFault → Type 0 → Type 0
unless_disk Disk so = Unit {0}
unless_disk (Damaged extent at) so = so
unless_disk (Newer version) so = so
unless_disk Memory so = so

-- so it is where the answer is another than that the disk failed
abbrev pub UnlessDisk : {T : Type 0} → Result T LogFault → Type 0 → Type 0
UnlessDisk (Ok value) so = so
UnlessDisk (Err fault) so = unless_disk fault so

-- The count doesn't fall, a failure of the disk is answered only where it rose, and where anything else is answered it
-- is as it was.
pub record HasDiskCause {T : Type 0} (result : Result T LogFault) (before now : ℕ) : Type 0 where
  pub never_falls : before ≤ now
  pub failed : FailsByDisk result → Rose before now
  pub uncounted : UnlessDisk result (now ≡ before)
