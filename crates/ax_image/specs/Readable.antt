-- When all that an image tells can be read: each payload is in its grammar, also one that a later part
-- took the place of.
-- From the store's own file format (docs/FORMAT.md, "Parts"); no other document has it.
use Rattle.std.specs.Prelude.{ℕ, List}
use Rattle.ax_disk.specs.model.Image.{Image}
use Rattle.ax_pages.specs.declared.numbers.TheConstants.{NEWEST_VERSION}
use Rattle.ax_area.specs.Contents.{Contents}
use Rattle.ax_area.specs.Image.{Says}
use Rattle.ax_area.specs.Told.{Told}
use Rattle.ax_image_grammar.specs.Grammar.{AreReadable}

-- the newest version of the format that is known, which is the one that is written
abbrev pub newest : ℕ
newest = NEWEST_VERSION

-- whatever the image says, each payload that it tells can be read
abbrev pub SaysReadable : Image → Type 0
SaysReadable image =
    (version : ℕ) (told : List Told) (contents : Contents) → Says newest version told contents image
    → AreReadable newest told
