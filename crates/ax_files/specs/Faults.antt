-- What a fault of a store's files says.
use Rattle.std.specs.Prelude.{◌≡◌, ◌⊎◌, IsTrue}
use Rattle.std.specs.IoError.{error_kind}
use Rattle.std.specs.declared.io.Error.{Error}
use Rattle.std.specs.declared.io.ErrorKind.TheVariants.{NotFound}
use Rattle.std.specs.declared.fs.TryLockError.{TryLockError}
use Rattle.std.specs.declared.fs.TryLockError.TheVariants.{WouldBlock}
use Rattle.ax_disk.specs.declared.extent.Extent.{Extent}
use Rattle.ax_files.specs.Marks.{Marks, is_marked}
use Rattle.ax_files.specs.SystemCalls.{SystemCall}
use Rattle.ax_files.specs.declared.file_fault.FileCall.{FileCall}
use Rattle.ax_files.specs.declared.file_fault.FileCall.TheVariants.{Open, Lock, Length, Read, Write, Cut, Sync}
use Rattle.ax_files.specs.declared.file_fault.FileFault.{FileFault}
use Rattle.ax_files.specs.declared.file_fault.FileFault.TheVariants.{
  Call,
  Folder,
  Locked,
  Rootless,
  Foreign,
  Arealess,
  Bound,
  Detached,
  Stopped,
}

-- that the system failed this call on the file of that extent
abbrev pub IsOfCall : Extent → FileCall → FileFault → Type 0
IsOfCall extent call (Call of_extent of_call error) = (of_extent ≡ extent) × (of_call ≡ call)
IsOfCall extent call (Folder error) = ⊥
IsOfCall extent call (Locked of_extent) = ⊥
IsOfCall extent call (Rootless root area) = ⊥
IsOfCall extent call Foreign = ⊥
IsOfCall extent call (Arealess area) = ⊥
IsOfCall extent call (Bound of_extent) = ⊥
IsOfCall extent call Detached = ⊥
IsOfCall extent call Stopped = ⊥

-- that the system failed this call on a file of the store
abbrev pub IsOfCallOnAny : FileCall → FileFault → Type 0
IsOfCallOnAny call (Call extent of_call error) = of_call ≡ call
IsOfCallOnAny call (Folder error) = ⊥
IsOfCallOnAny call (Locked extent) = ⊥
IsOfCallOnAny call (Rootless root area) = ⊥
IsOfCallOnAny call Foreign = ⊥
IsOfCallOnAny call (Arealess area) = ⊥
IsOfCallOnAny call (Bound extent) = ⊥
IsOfCallOnAny call Detached = ⊥
IsOfCallOnAny call Stopped = ⊥

-- that the system failed a call on a file
abbrev pub IsOfSomeCall : FileFault → Type 0
IsOfSomeCall (Call extent call error) = Unit {0}
IsOfSomeCall (Folder error) = ⊥
IsOfSomeCall (Locked extent) = ⊥
IsOfSomeCall (Rootless root area) = ⊥
IsOfSomeCall Foreign = ⊥
IsOfSomeCall (Arealess area) = ⊥
IsOfSomeCall (Bound extent) = ⊥
IsOfSomeCall Detached = ⊥
IsOfSomeCall Stopped = ⊥

-- that the system failed a call on a file that counts as unsynced
abbrev pub IsOfMarked : Marks → FileFault → Type 0
IsOfMarked marks (Call extent call error) = IsTrue (is_marked extent marks)
IsOfMarked marks (Folder error) = ⊥
IsOfMarked marks (Locked extent) = ⊥
IsOfMarked marks (Rootless root area) = ⊥
IsOfMarked marks Foreign = ⊥
IsOfMarked marks (Arealess area) = ⊥
IsOfMarked marks (Bound extent) = ⊥
IsOfMarked marks Detached = ⊥
IsOfMarked marks Stopped = ⊥

-- with such an error one of the calls fails that are made of the system here, none of which opens or locks a file
abbrev pub IsErrorOf : (SystemCall → Error → Type 0) → FileCall → Error → Type 0
IsErrorOf fails_with Open error = ⊥
IsErrorOf fails_with Lock error = ⊥
IsErrorOf fails_with Length error = fails_with SystemCall.Size error
IsErrorOf fails_with Read error = fails_with SystemCall.ReadPiece error
IsErrorOf fails_with Write error = fails_with SystemCall.WriteWhole error
IsErrorOf fails_with Cut error = fails_with SystemCall.Size error ⊎ fails_with SystemCall.Shorten error
IsErrorOf fails_with Sync error = fails_with SystemCall.Sync error

-- where a fault says that the system failed a call on a file, its error is one with which such a call on that file
-- fails
abbrev pub HasItsError : (Extent → SystemCall → Error → Type 0) → FileFault → Type 0
HasItsError fails_with (Call extent call error) = IsErrorOf (fails_with extent) call error
HasItsError fails_with (Folder error) = Unit {0}
HasItsError fails_with (Locked extent) = Unit {0}
HasItsError fails_with (Rootless root area) = Unit {0}
HasItsError fails_with Foreign = Unit {0}
HasItsError fails_with (Arealess area) = Unit {0}
HasItsError fails_with (Bound extent) = Unit {0}
HasItsError fails_with Detached = Unit {0}
HasItsError fails_with Stopped = Unit {0}

-- a file fails to open since there is none
pub record IsAbsent (fails_to_open : Error → Type 0) : Type 0 where
  pub error : Error
  pub is_of_it : fails_to_open error
  pub says_so : error_kind error ≡ NotFound

-- that files of the store have been lost
abbrev pub IsOfLost : FileFault → Type 0
IsOfLost (Call extent call error) = ⊥
IsOfLost (Folder error) = ⊥
IsOfLost (Locked extent) = ⊥
IsOfLost (Rootless root area) = Unit {0}
IsOfLost Foreign = Unit {0}
IsOfLost (Arealess area) = Unit {0}
IsOfLost (Bound extent) = ⊥
IsOfLost Detached = ⊥
IsOfLost Stopped = ⊥

-- with such an error the file of that extent fails to open or to lock, where that is the call
abbrev pub IsFindingErrorOf : (Error → Type 0) → (TryLockError → Type 0) → FileCall → Error → Type 0
IsFindingErrorOf fails_to_open fails_to_lock Open error = fails_to_open error
IsFindingErrorOf fails_to_open fails_to_lock Lock error = fails_to_lock (TryLockError.Error error)
IsFindingErrorOf fails_to_open fails_to_lock Length error = ⊥
IsFindingErrorOf fails_to_open fails_to_lock Read error = ⊥
IsFindingErrorOf fails_to_open fails_to_lock Write error = ⊥
IsFindingErrorOf fails_to_open fails_to_lock Cut error = ⊥
IsFindingErrorOf fails_to_open fails_to_lock Sync error = ⊥

-- that the file of that extent did not open, or that it is not locked: by an error of the system, or since another
-- program holds it; each where the file fails so
abbrev pub IsOfFinding : Extent → (Error → Type 0) → (TryLockError → Type 0) → FileFault → Type 0
IsOfFinding extent fails_to_open fails_to_lock (Call of_extent call error) =
    (of_extent ≡ extent) × IsFindingErrorOf fails_to_open fails_to_lock call error
IsOfFinding extent fails_to_open fails_to_lock (Folder error) = ⊥
IsOfFinding extent fails_to_open fails_to_lock (Locked of_extent) = (of_extent ≡ extent) × fails_to_lock WouldBlock
IsOfFinding extent fails_to_open fails_to_lock (Rootless root area) = ⊥
IsOfFinding extent fails_to_open fails_to_lock Foreign = ⊥
IsOfFinding extent fails_to_open fails_to_lock (Arealess area) = ⊥
IsOfFinding extent fails_to_open fails_to_lock (Bound of_extent) = ⊥
IsOfFinding extent fails_to_open fails_to_lock Detached = ⊥
IsOfFinding extent fails_to_open fails_to_lock Stopped = ⊥

-- with such an error a call fails that is made of a file while a store is opened
abbrev pub IsOpeningErrorOf : (Error → Type 0) → (TryLockError → Type 0) → (SystemCall → Error → Type 0) → FileCall
    → Error → Type 0
IsOpeningErrorOf fails_to_open fails_to_lock fails_with Open error = fails_to_open error
IsOpeningErrorOf fails_to_open fails_to_lock fails_with Lock error = fails_to_lock (TryLockError.Error error)
IsOpeningErrorOf fails_to_open fails_to_lock fails_with Length error = fails_with SystemCall.Size error
IsOpeningErrorOf fails_to_open fails_to_lock fails_with Read error = fails_with SystemCall.ReadPiece error
IsOpeningErrorOf fails_to_open fails_to_lock fails_with Write error = ⊥
IsOpeningErrorOf fails_to_open fails_to_lock fails_with Cut error = ⊥
IsOpeningErrorOf fails_to_open fails_to_lock fails_with Sync error = ⊥

-- Why a store is not opened: a file does not open, is not locked, or tells no length or no bytes; its folder is not
-- synced; another program holds it: each with an error that there is for it. Or that files of it have been lost.
abbrev pub HasOpeningCause : (Extent → Error → Type 0) → (Extent → TryLockError → Type 0)
    → (Extent → SystemCall → Error → Type 0) → (Error → Type 0) → FileFault → Type 0
HasOpeningCause fails_to_open fails_to_lock fails_with fails_to_sync (Call extent call error) =
    IsOpeningErrorOf (fails_to_open extent) (fails_to_lock extent) (fails_with extent) call error
HasOpeningCause fails_to_open fails_to_lock fails_with fails_to_sync (Folder error) = fails_to_sync error
HasOpeningCause fails_to_open fails_to_lock fails_with fails_to_sync (Locked extent) = fails_to_lock extent WouldBlock
HasOpeningCause fails_to_open fails_to_lock fails_with fails_to_sync (Rootless root area) = Unit {0}
HasOpeningCause fails_to_open fails_to_lock fails_with fails_to_sync Foreign = Unit {0}
HasOpeningCause fails_to_open fails_to_lock fails_with fails_to_sync (Arealess area) = Unit {0}
HasOpeningCause fails_to_open fails_to_lock fails_with fails_to_sync (Bound extent) = ⊥
HasOpeningCause fails_to_open fails_to_lock fails_with fails_to_sync Detached = ⊥
HasOpeningCause fails_to_open fails_to_lock fails_with fails_to_sync Stopped = ⊥

-- there is a file of which this is so
pub record IsSoOfSome {F : Type 0} (IsSo : F → Type 0) : Type 0 where
  pub file : F
  pub is_so : IsSo file
