-- What stands in an area at the places of the parts that count: the texts and payloads of the
-- contents.
-- From the store's own file format (docs/FORMAT.md, "Parts"); no other document has it.
use Rattle.std.specs.Prelude.{◌≡◌, ℕ, ◌+◌, ◌==◌, if◌then◌else◌, List, [], ◌∷◌, ◌++◌, length}
use Rattle.std.specs.Prelude.{take, drop, map, slice_index_or, Some}
use Rattle.std.specs.List.{flat_map}
use Rattle.std.specs.FinMap as finite
use Rattle.ax_pages.specs.Contents.{term_page, term_parts}
use Rattle.ax_pages.specs.declared.numbers.TheConstants.{PLAIN_DOCUMENT, DOCUMENT}
use Rattle.ax_area.specs.Contents.{Contents, Stored}
use Rattle.ax_area.specs.Places.{Place, PagePlaces}

-- the payload of a part, behind its head
abbrev pub payload_at : List ℕ → Place → List ℕ
payload_at area place = take place.len (drop (place.at + 9) area)

-- how many bytes stand in front of a document's text in its first part
abbrev pub text_front : ℕ → ℕ
text_front kind =
    if kind == PLAIN_DOCUMENT then 1 else (if kind == DOCUMENT then 9 else 13)

-- the text of a document whose parts stand at these places
abbrev pub text_at : List ℕ → List Place → List ℕ
text_at area [] = []
text_at area (first ∷ pieces) =
    drop (text_front first.kind) (payload_at area first) ++ flat_map (payload_at area) pieces

pub record ArePlaced (area : List ℕ) (contents : Contents) (places : PagePlaces) : Type 0 where
  pub policies : (number : ℕ) (text : List ℕ) → finite.get contents.policies number ≡ Some text
      → (at : List Place) × (finite.get places.policies number ≡ Some at)
      × (flat_map (payload_at area) at ≡ text)
  pub documents : (number : ℕ) (document : Stored)
      → finite.get contents.documents number ≡ Some document
      → (at : List Place) × (finite.get places.documents number ≡ Some at)
      × (text_at area at ≡ document.text)
  pub many : length places.terms ≡ length contents.terms
  pub terms : (page : ℕ)
      → map (payload_at area) (slice_index_or places.terms page [])
      ≡ term_parts (term_page page contents.terms)
