-- What opening finds of an image, where a newest version is known: that it is fresh or live, with
-- what it tells and the contents to which that leads; that it is of a later version; or that it is
-- damaged at one place. From the store's own file format (docs/FORMAT.md); no other document has
-- it.
use Rattle.std.specs.Prelude.{◌≡◌, ◌⊎◌, ℕ, ◌<◌, ◌≤◌, List, []}
use Rattle.ax_disk.specs.declared.extent.Extent.{Extent}
use Rattle.ax_disk.specs.declared.extent.Extent.TheVariants.{Root, A, B}
use Rattle.ax_disk.specs.model.Image.{Image, list_of}
use Rattle.ax_pages.specs.Area.{IsArea, IsBroken}
use Rattle.ax_area.specs.declared.root.Counting.{Counting}
use Rattle.ax_area.specs.declared.root.RootChoice.TheVariants.{Fresh, Counts, Damaged}
use Rattle.ax_area.specs.Root.{IsRoot, IsKnown, slot_offset, last_generation}
use Rattle.ax_area.specs.Contents.{Contents, no_contents}
use Rattle.ax_area.specs.Told.{Told, TellOn, Lead, AreSpoiled}

-- no slot counts: what the areas hold has no meaning
abbrev pub IsFresh : Image → Type 0
IsFresh image = IsRoot image.root Fresh

-- A live store: the slot counts, and the area that it names has these log frames.
pub record IsLive (newest : ℕ) (slot : Counting) (frames : List (List ℕ))
    (image : Image) : Type 0 where
  pub counts : IsRoot image.root (Counts slot)
  pub known : IsKnown newest slot
  pub has : IsArea (list_of slot.area image) frames

-- The image has these log frames: it is live with them, or it is fresh and they are none.
abbrev pub HasFrames : ℕ → List (List ℕ) → Image → Type 0
HasFrames newest frames image =
    (IsFresh image × (frames ≡ [])) ⊎ ((slot : Counting) × IsLive newest slot frames image)

-- The image is live, its area tells this in its version, in order, and that leads from nothing to
-- these contents.
pub record IsLiveWith (newest version : ℕ) (told : List Told) (contents : Contents)
    (image : Image) : Type 0 where
  pub slot : Counting
  pub version_is : slot.version ≡ version
  pub frames : List (List ℕ)
  pub live : IsLive newest slot frames image
  pub tell : TellOn version frames 0 told
  pub lead : Lead told no_contents contents

-- a fresh image tells nothing, in the newest version
pub record IsFreshWith (newest version : ℕ) (told : List Told) (contents : Contents)
    (image : Image) : Type 0 where
  pub fresh : IsFresh image
  pub version_is : version ≡ newest
  pub told_is : told ≡ []
  pub contents_is : contents ≡ no_contents

abbrev pub Says : ℕ → ℕ → List Told → Contents → Image → Type 0
Says newest version told contents image =
    IsFreshWith newest version told contents image
    ⊎ IsLiveWith newest version told contents image

-- the slot that counts is of this later version
pub record IsNewer (newest version : ℕ) (image : Image) : Type 0 where
  pub slot : Counting
  pub version_is : slot.version ≡ version
  pub counts : IsRoot image.root (Counts slot)
  pub later : newest < version

-- the slot that counts cannot be raised
pub record IsWorn (newest at : ℕ) (image : Image) : Type 0 where
  pub slot : Counting
  pub at_is : slot_offset slot.which ≡ at
  pub counts : IsRoot image.root (Counts slot)
  pub older : slot.version < newest
  pub last : last_generation ≤ slot.generation

-- the area that counts is broken at this place
pub record IsBrokenArea (newest : ℕ) (area : Extent) (at : ℕ) (image : Image) : Type 0 where
  pub slot : Counting
  pub area_is : slot.area ≡ area
  pub counts : IsRoot image.root (Counts slot)
  pub known : IsKnown newest slot
  pub broken : IsBroken (list_of area image) at

-- The image is broken at this place of this list, whatever its frames would tell: its root is damaged or worn, or a
-- frame of the area that counts is broken.
abbrev pub IsBrokenImage : ℕ → Image → Extent → ℕ → Type 0
IsBrokenImage newest image Root at = IsRoot image.root (Damaged at) ⊎ IsWorn newest at image
IsBrokenImage newest image A at = IsBrokenArea newest A at image
IsBrokenImage newest image B at = IsBrokenArea newest B at image

-- the area that counts has frames, and they are spoiled at this place
pub record IsSpoiledArea (newest : ℕ) (area : Extent) (at : ℕ) (image : Image) : Type 0 where
  pub slot : Counting
  pub area_is : slot.area ≡ area
  pub frames : List (List ℕ)
  pub live : IsLive newest slot frames image
  pub spoiled : AreSpoiled slot.version frames 0 no_contents at

-- Opening finds the image damaged at this place of this list. A frame that is broken goes before a
-- part that is spoiled, wherever the two stand: frames are told before parts.
abbrev pub IsDamaged : ℕ → Image → Extent → ℕ → Type 0
IsDamaged newest image Root at = IsRoot image.root (Damaged at) ⊎ IsWorn newest at image
IsDamaged newest image A at =
    IsBrokenArea newest A at image ⊎ IsSpoiledArea newest A at image
IsDamaged newest image B at =
    IsBrokenArea newest B at image ⊎ IsSpoiledArea newest B at image
