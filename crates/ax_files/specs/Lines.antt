-- What people read where a call on the files of a store failed (docs/LINES.md), as bytes.
use Rattle.std.specs.Prelude.{ℕ, List, Option, Some, None, is_some, Result, IsOk, IfSome, codes, chars, if◌then◌else◌}
use Rattle.std.specs.Char.{is_control}
use Rattle.std.specs.Fmt.{◌++?◌, debug_str, HasWritten, IsPlainFormatter}
use Rattle.std.specs.List.{list_any}
use Rattle.std.specs.declared.fmt.Error.{Error}
use Rattle.std.specs.declared.fmt.Formatter.{Formatter}
use Rattle.std.specs.declared.io.Error.{Error as SystemError}
use Rattle.ax_disk.specs.declared.extent.Extent.{Extent}
use Rattle.ax_disk.specs.declared.extent.Extent.TheVariants.{Root, A, B}
use Rattle.ax_files.specs.declared.file_fault.FileCall.{FileCall}
use Rattle.ax_files.specs.declared.file_fault.FileCall.TheVariants.{Open, Lock, Length, Read, Write, Cut, Sync}
use Rattle.ax_files.specs.declared.file_fault.FileFault.{FileFault}
use Rattle.ax_files.specs.declared.file_fault.FileFault.TheVariants.{
  Call,
  Folder,
  Locked,
  Rootless,
  Foreign,
  Arealess,
  Bound,
  Detached,
  Stopped,
}
use Rattle.ax_files.specs.declared.file_fault.RootState.{RootState}
use Rattle.ax_files.specs.declared.file_fault.RootState.TheVariants.{Absent, Short, NoSlot, HasSlot}

-- what the name of a store's file ends with, behind the name of the store and a dot
abbrev pub ending_text : Extent → List ℕ
ending_text Root = codes "root"
ending_text A = codes "a"
ending_text B = codes "b"

abbrev pub call_text : FileCall → List ℕ
call_text Open = codes "open"
call_text Lock = codes "lock"
call_text Length = codes "length"
call_text Read = codes "read"
call_text Write = codes "write"
call_text Cut = codes "cut"
call_text Sync = codes "sync"

-- what is wrong with a root that stands for a fresh store
abbrev pub defect_text : RootState → List ℕ
defect_text Absent = codes "is missing"
defect_text Short = codes "is too short for a root"
defect_text NoSlot = codes "is no root of a store"
defect_text HasSlot = codes "is no root of a store"

-- the name of a store within a line: where it has control characters, as `{:?}` writes it, of which nothing is said
-- past ASCII
abbrev pub name_text : List ℕ → Option (List ℕ)
name_text store = if list_any is_control (chars store) then debug_str store else Some store

-- the name of a store's file, and what comes behind it
abbrev pub file_text : List ℕ → Extent → Option (List ℕ) → Option (List ℕ)
file_text store extent rest = name_text store ++? Some (codes ".") ++? Some (ending_text extent) ++? rest

-- the words of the line of a fault: all of it, or what stands before an error of the system at its end
abbrev pub words_text : List ℕ → FileFault → Option (List ℕ)
words_text store (Call extent call error) =
    file_text store extent (Some (codes ": ") ++? Some (call_text call) ++? Some (codes ": "))
words_text store (Folder error) = Some (codes "the folder of ") ++? name_text store ++? Some (codes ".root: sync: ")
words_text store (Locked extent) = file_text store extent (Some (codes ": another program holds the store"))
words_text store (Rootless root area) =
    name_text store ++? Some (codes ".root ") ++? Some (defect_text root) ++? Some (codes ", and ")
    ++? file_text store area
    (Some (codes " is not empty: put back the ") ++? name_text store
    ++? Some (codes ".root that belongs to it; to begin anew, move the three files away"))
words_text store Foreign =
    name_text store ++? Some (codes ".root is no root of a store: put back the ") ++? name_text store
    ++? Some (codes ".root of the store, or take another name")
words_text store (Arealess area) =
    file_text store area
    (Some (codes " is missing, and ") ++? name_text store
    ++? Some (codes ".root needs it: put it back; to begin anew, move the three files away"))
words_text store (Bound extent) = file_text store extent (Some (codes ": longer than 2^62 bytes"))
words_text store Detached = name_text store ++? Some (codes ": no store is attached")
words_text store Stopped = name_text store ++? Some (codes ": an earlier call had failed")

-- the error of the system at the end of a line
abbrev pub system_error : FileFault → Option SystemError
system_error (Call extent call error) = Some error
system_error (Folder error) = Some error
system_error (Locked extent) = None
system_error (Rootless root area) = None
system_error Foreign = None
system_error (Arealess area) = None
system_error (Bound extent) = None
system_error Detached = None
system_error Stopped = None

-- the line of a fault; nothing is said of one that ends with an error of the system
abbrev pub line_text : List ℕ → FileFault → Option (List ℕ)
line_text store fault = if is_some (system_error fault) then None else words_text store fault

-- the text was written first of all
pub record HasBegun {W : Type 0} (took : W → List ℕ → W → Type 0) (f : Formatter W) (text : List ℕ) : Type 0 where
  pub then_on : Formatter W
  pub written : HasWritten took f text then_on

-- where all went well, the text in o was written first of all; it says nothing if o is `None`
abbrev pub BeginsOnOk : {W : Type 0} → (W → List ℕ → W → Type 0) → Formatter W → Result (Unit {0}) Error
    → Option (List ℕ) → Type 0
BeginsOnOk took f result o = IsPlainFormatter f → IsOk result → IfSome o (λ text. HasBegun took f text)
