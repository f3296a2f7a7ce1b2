-- What the pages of an open store say, as they are kept, and the text of a document that may be held.
-- It is this project's own; it comes from no public document.
use Rattle.std.specs.Prelude.{List, ℕ, Option, Some, None}
use Rattle.ax_area.specs.Contents.{Contents, Stored}
use Rattle.ax_area_laws.specs.Risen.{risen}
use Rattle.ax_store.specs.Kept.{Kept}

-- what the store's pages say
abbrev pub kept_says : Kept → Contents
kept_says pages = risen pages.contents

-- the text of a document that may be held
abbrev pub text_of : Option Stored → Option (List ℕ)
text_of (Some document) = Some document.text
text_of None = None
