-- When files of a store have been lost, by what is at the place of its root and by the lengths of its areas,
-- `None` where there is no file. A program that forms a store writes one byte of an area at most until the root
-- is whole, and an open slot before the root's last byte; it makes all three files before it writes the root
-- (docs/FORMAT.md, "A store's three files"). So no crash leaves what is called lost here.
use Rattle.std.specs.Prelude.{◌≡◌, ◌<◌, ◌≤◌, ◌⊎◌, ℕ, List, length, take, drop, Option, Some, None, option_map}
use Rattle.ax_disk.specs.declared.extent.Extent.{Extent}
use Rattle.ax_disk.specs.declared.extent.Extent.TheVariants.{Root, A, B}
use Rattle.ax_files.specs.declared.file_fault.FileFault.{FileFault}
use Rattle.ax_files.specs.declared.file_fault.FileFault.TheVariants.{
  Call,
  Folder,
  Locked,
  Rootless,
  Foreign,
  Arealess,
  Bound,
  Detached,
  Stopped,
}
use Rattle.ax_files.specs.declared.file_fault.RootState.{RootState}
use Rattle.ax_files.specs.declared.file_fault.RootState.TheVariants.{Absent, Short, NoSlot, HasSlot}
use Rattle.ax_frame.specs.RootSlot.{IsSlot}
use Rattle.ax_frame.specs.declared.root_slot.RootSlot.{RootSlot}
use Rattle.ax_frame.specs.declared.root_slot.RootSlot.TheVariants.{Closed, Live, Bad}

-- an area holds more than a closed gate
abbrev pub IsFull : Option ℕ → Type 0
IsFull None = ⊥
IsFull (Some len) = 1 < len

-- a root that stands for a fresh store beside an area that forming would cut; a whole root with no open slot,
-- which nothing of ours leaves; an open slot beside an area that is missing
abbrev pub IsLost : RootState → Option ℕ → Option ℕ → Type 0
IsLost Absent a b = IsFull a ⊎ IsFull b
IsLost Short a b = IsFull a ⊎ IsFull b
IsLost NoSlot a b = Unit {0}
IsLost HasSlot a b = (a ≡ None) ⊎ (b ≡ None)

-- the area of that extent holds more than a closed gate
abbrev pub IsFullAt : Extent → Option ℕ → Option ℕ → Type 0
IsFullAt Root a b = ⊥
IsFullAt A a b = IsFull a
IsFullAt B a b = IsFull b

-- the area of that extent is missing
abbrev pub IsMissingAt : Extent → Option ℕ → Option ℕ → Type 0
IsMissingAt Root a b = ⊥
IsMissingAt A a b = a ≡ None
IsMissingAt B a b = b ≡ None

-- what the fault says of lost files is so
abbrev pub Tells : RootState → Option ℕ → Option ℕ → FileFault → Type 0
Tells root a b (Rootless state area) = (state ≡ root) × ((root ≡ Absent) ⊎ (root ≡ Short)) × IsFullAt area a b
Tells root a b Foreign = root ≡ NoSlot
Tells root a b (Arealess area) = (root ≡ HasSlot) × IsMissingAt area a b
Tells root a b (Call extent call error) = ⊥
Tells root a b (Folder error) = ⊥
Tells root a b (Locked extent) = ⊥
Tells root a b (Bound extent) = ⊥
Tells root a b Detached = ⊥
Tells root a b Stopped = ⊥

-- what a whole root with these slots is
abbrev pub root_state : RootSlot → RootSlot → RootState
root_state Closed Closed = NoSlot
root_state Closed (Live version area generation) = HasSlot
root_state Closed Bad = HasSlot
root_state (Live version area generation) second = HasSlot
root_state Bad second = HasSlot

-- what a whole root of these bytes is, by its slots
pub record IsWholeRoot (bytes : List ℕ) (state : RootState) : Type 0 where
  pub first : RootSlot
  pub second : RootSlot
  pub first_is : IsSlot (take 16 bytes) first
  pub second_is : IsSlot (take 16 (drop 16 bytes)) second
  pub state_is : state ≡ root_state first second

-- what a file of these bytes is at a root's place
pub record IsRootFile (bytes : List ℕ) (state : RootState) : Type 0 where
  pub short : length bytes < 33 → state ≡ Short
  pub whole : 33 ≤ length bytes → IsWholeRoot bytes state

-- what is at a root's place, by the bytes of the file there
abbrev pub IsAtRoot : Option (List ℕ) → RootState → Type 0
IsAtRoot None state = state ≡ Absent
IsAtRoot (Some bytes) state = IsRootFile bytes state

-- files of these bytes are a store of which nothing has been lost
pub record IsSound (root a b : Option (List ℕ)) : Type 0 where
  pub state : RootState
  pub at_root : IsAtRoot root state
  pub sound : IsLost state (option_map length a) (option_map length b) → ⊥

-- they are not, and the fault says why
pub record IsUnsound (root a b : Option (List ℕ)) (fault : FileFault) : Type 0 where
  pub state : RootState
  pub at_root : IsAtRoot root state
  pub lost : IsLost state (option_map length a) (option_map length b)
  pub told : Tells state (option_map length a) (option_map length b) fault
