-- A batch as contracts see it: the parts that it changes pages by, and whether it was sealed.
-- It is this project's own; it comes from no public document.
use Rattle.std.specs.Prelude.{◌≡◌, Bool, List, Some}
use Rattle.ax_area.specs.Contents.{Contents}
use Rattle.ax_area.specs.Parts.{after_parts}
use Rattle.ax_frame.specs.Part.{PartValue}
use Rattle.ax_store.specs.declared.batch.Batch.{Batch}

abbrev pub batch_parts : Batch → List PartValue
batch_parts batch = batch.text

-- the parts say changes that may follow the contents
abbrev pub AreAllowed : List PartValue → Contents → Type 0
AreAllowed parts contents = (new : Contents) × (after_parts parts contents ≡ Some new)

abbrev pub is_sealed : Batch → Bool
is_sealed batch = batch.sealed
