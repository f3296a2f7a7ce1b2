-- When an image is in the grammar, whole: what opening sees, the payload of everything that was
-- told, superseded or not, and the policies in use or now. And where an image is outside it. From
-- the store's own file format (docs/FORMAT.md); no other document has it.
use Rattle.std.specs.Prelude.{◌≡◌, ◌≢◌, ◌⊎◌, ℕ, List}
use Rattle.std.specs.List.{AllByRecursion, Contains}
use Rattle.ax_disk.specs.declared.extent.Extent.{Extent}
use Rattle.ax_disk.specs.model.Image.{Image}
use Rattle.ax_area.specs.Contents.{Contents}
use Rattle.ax_area.specs.Told.{Told, changes_of}
use Rattle.ax_area.specs.Image.{Says, IsLiveWith, IsDamaged}
use Rattle.ax_image_grammar.specs.Payloads.{IsReadable}
use Rattle.ax_image_grammar.specs.Table.{AreApart, IsTaken, policy_text}

-- each payload that was told can be read, also of what later changes took the place of
abbrev pub AreReadable : ℕ → List Told → Type 0
AreReadable newest told = AllByRecursion (IsReadable newest) (changes_of told)

pub record IsGrammatical (newest version : ℕ) (told : List Told) (contents : Contents)
    (image : Image) : Type 0 where
  pub says : Says newest version told contents image
  pub readable : AreReadable newest told
  pub apart : AreApart contents

-- ---- outside it, where opening finds no damage

-- at this place of this area stands what cannot be read, superseded or not
pub record IsUnreadable (newest : ℕ) (area : Extent) (at : ℕ) (image : Image) : Type 0 where
  pub version : ℕ
  pub told : List Told
  pub contents : Contents
  pub live : IsLiveWith newest version told contents image
  pub area_is : live.slot.area ≡ area
  pub one : Told
  pub is_told : Contains told one
  pub place : one.at ≡ at
  pub bad : IsReadable newest one.change → ⊥

-- two numbers in use or now have one text: at offset 0 of the area
pub record HasTwins (newest : ℕ) (area : Extent) (at : ℕ) (image : Image) : Type 0 where
  pub version : ℕ
  pub told : List Told
  pub contents : Contents
  pub live : IsLiveWith newest version told contents image
  pub area_is : live.slot.area ≡ area
  pub place : at ≡ 0
  pub a : ℕ
  pub b : ℕ
  pub taken : IsTaken a contents
  pub taken_too : IsTaken b contents
  pub same : policy_text a contents ≡ policy_text b contents
  pub two : a ≢ b

-- The image is outside the grammar at this place: opening finds it damaged there, or what stands there
-- cannot be read, or two policies in use or now have one text.
abbrev pub IsOutside : ℕ → Extent → ℕ → Image → Type 0
IsOutside newest area at image =
    IsDamaged newest image area at
    ⊎ (IsUnreadable newest area at image ⊎ HasTwins newest area at image)
