-- What opening a store with its index answers, by what reads of it gave.
-- It is this project's own; it comes from no public document.
use Rattle.std.specs.Prelude.{◌≡◌, ◌⊎◌, ℕ, List, Result, Err}
use Rattle.ax_area.specs.Contents.{Contents}
use Rattle.ax_area.specs.Image.{IsDamaged, IsLiveWith, IsNewer, Says}
use Rattle.ax_area.specs.Told.{Told}
use Rattle.ax_container.specs.Container.{Container}
use Rattle.ax_disk.specs.declared.extent.Extent.{Extent}
use Rattle.ax_disk.specs.model.Image.{Image}
use Rattle.ax_disk.specs.model.Moments.{History}
use Rattle.ax_disk.specs.model.Stays.{Rests}
use Rattle.ax_image.specs.Readable.{newest}
use Rattle.ax_image_grammar.specs.Grammar.{HasTwins}
use Rattle.ax_image_grammar.specs.Met.{IsPolicyMet}
use Rattle.ax_image_grammar.specs.Payloads.{IsPolicyText}
use Rattle.ax_image_grammar.specs.Table.{AreApart, IsTaken, policy_text}
use Rattle.ax_image_pairs.specs.Indexed.{StandsForAll}
use Rattle.ax_log.specs.Opening.{Keeps}
use Rattle.ax_pages.specs.Area.{extent_number}
use Rattle.ax_store.specs.declared.fault.StoreFault.{StoreFault}
use Rattle.ax_store.specs.declared.fault.StoreFault.TheVariants as fault
use Rattle.ax_table.specs.Damage.{IsNeeded}

-- the image stands for the container with its index
abbrev pub IsImageOf : Container → Image → Type 0
IsImageOf container image = StandsForAll image container

-- the contents have a table of policies: the text of each policy in use or now is that of one, and no two of these
-- have one text
pub record HaveTable (contents : Contents) : Type 0 where
  pub texts : (number : ℕ) → IsTaken number contents → IsPolicyText (policy_text number contents)
  pub apart : AreApart contents

-- the image is within the format in root, frames and heads of parts, and has a table of policies
abbrev pub IsWithin : Image → Type 0
IsWithin image =
    (version : ℕ) × (told : List Told) × (contents : Contents) × Says newest version told contents image × HaveTable contents

-- Each image that a crash may leave stands for some container with its index, and what reads give stands for this one. An
-- empty store is such, and so is every store that these calls leave.
pub record IsStore (container : Container) (history : History) : Type 0 where
  pub each : Rests history (λ image. (some : Container) × StandsForAll image some)
  pub reads : StandsForAll history.reads container

-- there stands the text of a policy that the table of policies needs, of a number in use or now or of number 0, and it
-- is outside its grammar
pub record IsNeededMetAt (area : Extent) (at : ℕ) (image : Image) : Type 0 where
  pub version : ℕ
  pub told : List Told
  pub contents : Contents
  pub live : IsLiveWith newest version told contents image
  pub area_is : live.slot.area ≡ area
  pub number : ℕ
  pub needed : IsNeeded number contents
  pub met : IsPolicyMet number told contents at

-- Opening finds the image damaged at this place of the list of this number: root, frames or parts are outside the format
-- there, or a text of a policy that the table needs is outside its grammar, or two policies in use or now have one text.
abbrev pub IsRefusedAt : Image → ℕ → ℕ → Type 0
IsRefusedAt image extent at =
    (list : Extent) × (extent ≡ extent_number list)
    × (IsDamaged newest image list at ⊎ (IsNeededMetAt list at image ⊎ HasTwins newest list at image))

-- why a store is refused: it is damaged at that place, or of that later version; its lists are then as they were
abbrev pub RefusesBy : StoreFault → History → History → Type 0
RefusesBy (fault.Damaged extent at) old new = IsRefusedAt old.reads extent at × Keeps old new
RefusesBy (fault.Newer version) old new = IsNewer newest version old.reads × Keeps old new
RefusesBy fault.Disk old new = Unit {0}
RefusesBy fault.Memory old new = Unit {0}

-- this is the answer, but that the disk may fail
abbrev pub IsAnswerUnlessDisk : {T : Type 0} → StoreFault → Result T StoreFault → Type 0
IsAnswerUnlessDisk why result = (result ≡ Err why) ⊎ (result ≡ Err fault.Disk)
