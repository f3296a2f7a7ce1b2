-- What a disk over files shows: how many of its calls have failed, and why the first one did.
use Rattle.std.specs.Prelude.{ℕ, Option}
use Rattle.ax_files.specs.declared.counted_files.CountedFiles.{CountedFiles}
use Rattle.ax_files.specs.declared.file_fault.FileFault.{FileFault}

-- how many calls of it have failed
abbrev pub fault_count : {F S : Type 0} {B : _} → CountedFiles F S B → ℕ
fault_count disk = disk.faults

-- why the first call failed of those that did
abbrev pub first_fault_of : {F S : Type 0} {B : _} → CountedFiles F S B → Option FileFault
first_fault_of disk = disk.first_fault
