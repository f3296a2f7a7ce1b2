-- The root slots of a store: which sixteen bytes name an area of frames, and which do not.
-- From the store's own file format (docs/FORMAT.md, "Root slots"); no other document has it.
use Rattle.std.specs.Prelude.{◌≡◌, ◌≢◌, ℕ, ◌<◌, ◌≤◌, ◌^◌, ◌⊎◌, List, [], ◌∷◌, ◌++◌, slice_index}
use Rattle.std.specs.Int.{w16, w64, to_le_bytes}
use Rattle.ax_frame.specs.declared.root_slot.RootSlot.{RootSlot}
use Rattle.ax_frame.specs.declared.root_slot.RootSlot.TheVariants.{Closed, Live, Bad}

-- the bytes at the end of a whole slot: AXDB
abbrev pub mark : List ℕ
mark = 65 ∷ 88 ∷ 68 ∷ 66 ∷ []

-- the bytes after the gate: version, area, generation and mark
abbrev pub slot_names : ℕ → ℕ → ℕ → List ℕ
slot_names version area generation = to_le_bytes w16 version ++ area ∷ to_le_bytes w64 generation ++ mark

-- an open slot: its gate byte is 1
abbrev pub slot_bytes : ℕ → ℕ → ℕ → List ℕ
slot_bytes version area generation = 1 ∷ slot_names version area generation

-- what a slot can name: any version from 1 on, one of the two areas, and any generation
pub record CanName (version area generation : ℕ) : Type 0 where
  pub version_from : 1 ≤ version
  pub version_fits : version < 2 ^ 16
  pub one_of_two : (area ≡ 1) ⊎ (area ≡ 2)
  pub generation_fits : generation < 2 ^ 64

-- the bytes are the open slot that names this version, area and generation
abbrev pub IsOpenSlot : List ℕ → ℕ → ℕ → ℕ → Type 0
IsOpenSlot bytes version area generation = CanName version area generation × (bytes ≡ slot_bytes version area generation)

-- What sixteen bytes are as a slot. It is closed where the gate byte is not 1, whatever follows.
-- It is live where it is an open slot, and bad where its gate is open and it names nothing.
abbrev pub IsSlot : List ℕ → RootSlot → Type 0
IsSlot bytes Closed = slice_index bytes 0 ≢ 1
IsSlot bytes (Live version area generation) = IsOpenSlot bytes version area generation
IsSlot bytes Bad = (slice_index bytes 0 ≡ 1) × ((version area generation : ℕ) → IsOpenSlot bytes version area generation → ⊥)
