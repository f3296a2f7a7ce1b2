-- What damage that a call tells says of the image that reads give.
-- It is this project's own; it comes from no public document.
use Rattle.std.specs.Prelude.{◌≡◌, ℕ}
use Rattle.ax_disk.specs.declared.extent.Extent.{Extent}
use Rattle.ax_disk.specs.model.Image.{Image}
use Rattle.ax_image.specs.Readable.{newest}
use Rattle.ax_image_grammar.specs.Met.{IsMetAt}
use Rattle.ax_pages.specs.Area.{extent_number}
use Rattle.ax_store.specs.declared.fault.StoreFault.{StoreFault}
use Rattle.ax_store.specs.declared.fault.StoreFault.TheVariants as fault

-- At this offset of the list of this number stands what the image holds outside its grammar: the text of a document or of a
-- policy, or a part of a term page.
abbrev pub IsMetIn : Image → ℕ → ℕ → Type 0
IsMetIn image extent at = (area : Extent) × (extent ≡ extent_number area) × IsMetAt newest area at image

-- where a fault is damage, there stands such
abbrev pub MeetsBy : StoreFault → Image → Type 0
MeetsBy fault.Disk image = Unit {0}
MeetsBy (fault.Damaged extent at) image = IsMetIn image extent at
MeetsBy (fault.Newer version) image = ⊥
MeetsBy fault.Memory image = Unit {0}
