-- What frames tell: a list of changes, each by an item that stands at an offset of the area; and
-- where bytes are spoiled. From the store's own file format (docs/FORMAT.md, "Frames" and "Parts");
-- no other document has it.
use Rattle.std.specs.Prelude.{◌≡◌, ◌≢◌, ◌⊎◌, ℕ, ◌+◌, List, [], ◌∷◌, ◌++◌, length, map}
use Rattle.std.specs.Prelude.{Some, None, option_and_then}
use Rattle.std.specs.List.{flat_map}
use Rattle.ax_area.specs.Items.{Item, IsItem, item_bytes}
use Rattle.ax_area.specs.Changes.{Change, change_of}
use Rattle.ax_area.specs.Contents.{Contents, after_change, after_changes}

-- what an area tells at one place: where the item stands in the area, and the change that it says
pub record Told : Type 0 where
  pub at : ℕ
  pub item : Item
  pub change : Change

abbrev pub changes_of : List Told → List Change
changes_of told = map (λ t. t.change) told

abbrev pub told_bytes : List Told → List ℕ
told_bytes told = flat_map (λ t. item_bytes t.item) told

-- an item at this offset, which says its change in this version
pub record IsTold (version at : ℕ) (t : Told) : Type 0 where
  pub at_is : t.at ≡ at
  pub item : IsItem t.item
  pub says : change_of version t.item ≡ Some t.change

-- one behind another
abbrev pub AreTold : ℕ → ℕ → List Told → Type 0
AreTold version at [] = Unit {0}
AreTold version at (t ∷ told) =
    IsTold version at t × AreTold version (at + length (item_bytes t.item)) told

-- The bytes, which stand at an offset, begin with these items, and the rest follows.
pub record Begins (version : ℕ) (bytes : List ℕ) (at : ℕ) (told : List Told)
    (rest : List ℕ) : Type 0 where
  pub are : AreTold version at told
  pub spelled : bytes ≡ told_bytes told ++ rest

-- What the frames span are these items. The first frame stands at an offset; each has nine bytes in
-- front of what it spans.
abbrev pub TellOn : ℕ → List (List ℕ) → ℕ → List Told → Type 0
TellOn version [] at told = told ≡ []
TellOn version (frame ∷ frames) at told =
    (first : List Told) × (others : List Told) × (told ≡ first ++ others)
    × Begins version frame (at + 9) first []
    × TellOn version frames (at + 9 + length frame) others

-- the contents to which what was told leads from those before
abbrev pub Lead : List Told → Contents → Contents → Type 0
Lead told before after = after_changes (changes_of told) before ≡ Some after

-- Whatever item the bytes begin with, it says nothing in this version, or what may not follow these
-- contents.
abbrev pub IsRefused : ℕ → List ℕ → Contents → Type 0
IsRefused version bytes contents =
    (item : Item) (follows : List ℕ) → IsItem item → bytes ≡ item_bytes item ++ follows
    → option_and_then (λ change. after_change change contents) (change_of version item)
    ≡ None

-- Some items lead up to the place, and there something stands that is no item, or an item that is
-- outside the format.
pub record IsSpoiled (version : ℕ) (bytes : List ℕ) (at : ℕ) (before : Contents)
    (place : ℕ) : Type 0 where
  pub told : List Told
  pub rest : List ℕ
  pub begins : Begins version bytes at told rest
  pub reached : Contents
  pub lead : Lead told before reached
  pub some : rest ≢ []
  pub refused : IsRefused version rest reached
  pub place_is : place ≡ at + length (told_bytes told)

-- Of frames, the first of which stands at an offset, one is spoiled, and those before it lead up to
-- it.
abbrev pub AreSpoiled : ℕ → List (List ℕ) → ℕ → Contents → ℕ → Type 0
AreSpoiled version [] at before place = ⊥
AreSpoiled version (frame ∷ frames) at before place =
    IsSpoiled version frame (at + 9) before place
    ⊎ ((told : List Told) × (between : Contents) × Begins version frame (at + 9) told []
    × Lead told before between
    × AreSpoiled version frames (at + 9 + length frame) between place)
