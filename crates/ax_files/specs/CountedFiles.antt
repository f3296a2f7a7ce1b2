-- What the files of a store that are in use are: attached, not attached yet, or no more to be used since a write, a
-- cut or a sync has failed; and which fault is kept of the calls on them.
use Rattle.std.specs.Prelude.{◌≡◌, Option, Some, None, IsSomeAnd}
use Rattle.ax_disk.specs.declared.extent.Extent.{Extent}
use Rattle.ax_files.specs.Content.{at_extent}
use Rattle.ax_files.specs.Marks.{Marks, marks, all_marked}
use Rattle.ax_files.specs.declared.counted_files.State.{State}
use Rattle.ax_files.specs.declared.counted_files.State.TheVariants.{Detached, Attached, Stopped}
use Rattle.ax_files.specs.declared.file_fault.FileFault.{FileFault}
use Rattle.ax_files.specs.declared.store_files.StoreFiles.{StoreFiles}

-- the file of that extent
abbrev pub file_at : {F : Type 0} {B : _} → Extent → StoreFiles F B → F
file_at extent files = at_extent extent files.root.file files.a.file files.b.file

-- files are attached
abbrev pub HasFiles : {F : Type 0} {B : _} → State F B → Type 0
HasFiles (Attached files) = Unit {0}
HasFiles Detached = ⊥
HasFiles Stopped = ⊥

-- files are attached, and they are such
abbrev pub HasFilesThat : {F : Type 0} {B : _} → (StoreFiles F B → Type 0) → State F B → Type 0
HasFilesThat AreSuch (Attached files) = AreSuch files
HasFilesThat AreSuch Detached = ⊥
HasFilesThat AreSuch Stopped = ⊥

-- where files are attached, they are such
abbrev pub IfFiles : {F : Type 0} {B : _} → (StoreFiles F B → Type 0) → State F B → Type 0
IfFiles AreSuch (Attached files) = AreSuch files
IfFiles AreSuch Detached = Unit {0}
IfFiles AreSuch Stopped = Unit {0}

-- files are attached before and after, and this is so of them
abbrev pub FilesBecome : {F : Type 0} {B : _} → (StoreFiles F B → StoreFiles F B → Type 0) → State F B → State F B → Type 0
FilesBecome IsSo (Attached old) new = HasFilesThat (IsSo old) new
FilesBecome IsSo Detached new = ⊥
FilesBecome IsSo Stopped new = ⊥

-- which of the files attached count as unsynced; all where none is
abbrev pub state_marks : {F : Type 0} {B : _} → State F B → Marks
state_marks (Attached files) = marks files.root.is_unsynced files.a.is_unsynced files.b.is_unsynced
state_marks Detached = all_marked
state_marks Stopped = all_marked

-- the first of the faults so far and one more
abbrev pub first_of : Option FileFault → FileFault → Option FileFault
first_of None fault = Some fault
first_of (Some first) fault = Some first

-- where files are attached, a fault that a call on these files may answer; else that none are, or that an earlier
-- call had failed
abbrev pub IsAnsweredBy : {F : Type 0} {B : _} → (StoreFiles F B → FileFault → Type 0) → State F B → FileFault → Type 0
IsAnsweredBy May (Attached files) fault = May files fault
IsAnsweredBy May Detached fault = fault ≡ FileFault.Detached
IsAnsweredBy May Stopped fault = fault ≡ FileFault.Stopped

-- where the files of a store are attached, a fault that a call on them may answer; else that none is, or that an
-- earlier call had failed
abbrev pub IsAnswered : {F : Type 0} {B : _} → (FileFault → Type 0) → State F B → FileFault → Type 0
IsAnswered May (Attached files) fault = May fault
IsAnswered May Detached fault = fault ≡ FileFault.Detached
IsAnswered May Stopped fault = fault ≡ FileFault.Stopped

-- a fault of attaching files: one that opening them answered, or that an earlier call had failed
abbrev pub IsOfAttach : {F : Type 0} {B : _} → (FileFault → Type 0) → State F B → FileFault → Type 0
IsOfAttach Opens (Attached files) fault = Opens fault
IsOfAttach Opens Detached fault = Opens fault
IsOfAttach Opens Stopped fault = fault ≡ FileFault.Stopped

-- from a fault kept or none to the one kept after a failure: the same one, or where there was none such a one
abbrev pub Keeps : (FileFault → Type 0) → Option FileFault → Option FileFault → Type 0
Keeps IsSuch None kept = IsSomeAnd kept IsSuch
Keeps IsSuch (Some first) kept = kept ≡ Some first
