-- The images through which a fresh store is formed: three empty lists; a closed gate in area A and
-- 32 bytes of root, which are none yet; and the whole root.
-- From the store's own file format (docs/FORMAT.md, "Forming"); no other document has it.
use Rattle.std.specs.Prelude.{◌≡◌, ◌⊎◌, List, ℕ, [], ◌∷◌, ◌++◌, replicate}
use Rattle.ax_disk.specs.model.Image.{Image}
use Rattle.ax_disk.specs.model.Pending.{all_settled}
use Rattle.ax_disk.specs.model.Moments.{History}
use Rattle.ax_area.specs.Image.{IsFresh, IsLive}
use Rattle.ax_area.specs.declared.root.Counting.{Counting}
use Rattle.ax_area.specs.declared.root.Which.TheVariants.{First}
use Rattle.ax_disk.specs.declared.extent.Extent.TheVariants.{A}
use Rattle.ax_frame.specs.RootSlot.{slot_bytes}
use Rattle.ax_pages.specs.declared.numbers.TheConstants.{NEWEST_VERSION}

abbrev pub empty_image : Image
empty_image = record { root = []; a = []; b = [] }

-- the slot of a store that was formed
abbrev pub formed_slot : Counting
formed_slot = record { which = First; version = NEWEST_VERSION; area = A; generation = 1 }

-- the open slot of the newest version, area 1 and generation 1, and a closed one
abbrev pub fresh_slots : List ℕ
fresh_slots = slot_bytes NEWEST_VERSION 1 1 ++ replicate 16 0

abbrev pub laid_image : Image
laid_image = record { root = fresh_slots; a = 0 ∷ []; b = [] }

-- the 33rd byte makes the root whole
abbrev pub formed_image : Image
formed_image = record { root = fresh_slots ++ 69 ∷ []; a = 0 ∷ []; b = [] }

-- what a crash leaves while a store is formed: a fresh one, or one of the slot that is formed, with no frames
abbrev pub IsForming : Image → Type 0
IsForming image = IsFresh image ⊎ IsLive NEWEST_VERSION formed_slot [] image

-- reads give this image, and all of it is synced
pub record IsSettledAt (image : Image) (history : History) : Type 0 where
  pub reads : history.reads ≡ image
  pub settled : history.unsynced ≡ all_settled history.reads
