-- Where the parts of what a store has stand in the area: of each page those that count, in order.
-- From the store's own file format (docs/FORMAT.md, "Parts"); no other document has it.
use Rattle.std.specs.Prelude.{ℕ, ◌+◌, nat_lt, if◌then◌else◌, List, [], ◌∷◌, ◌++◌, length}
use Rattle.std.specs.Prelude.{slice_index_or, slice_set}
use Rattle.std.specs.Ordering.{nat_cmp}
use Rattle.std.specs.FinMap as map
use Rattle.ax_frame.specs.Part.{PartValue, part_bytes}
use Rattle.ax_area.specs.Items.{item_parts}
use Rattle.ax_area.specs.Changes.{Change}
use Rattle.ax_area.specs.Changes as change
use Rattle.ax_area.specs.Told.{Told}

-- a part, as a directory keeps it
pub record Place : Type 0 where
  pub at : ℕ
  pub kind : ℕ
  pub len : ℕ

pub record PagePlaces : Type 0 where
  pub meta : List Place
  pub policies : map.FinMap nat_cmp (List Place)
  pub documents : map.FinMap nat_cmp (List Place)
  -- by number, from 0 on
  pub terms : List (List Place)

abbrev pub no_places : PagePlaces
no_places = record { meta = []; policies = map.empty; documents = map.empty; terms = [] ∷ [] }

-- parts that stand one behind another from an offset on
abbrev pub places_from : ℕ → List PartValue → List Place
places_from at [] = []
places_from at (part ∷ parts) =
    record { at = at; kind = part.kind; len = length part.payload }
    ∷ places_from (at + length (part_bytes part)) parts

abbrev pub with_base_places : ℕ → List Place → List (List Place) → List (List Place)
with_base_places page new places =
    if nat_lt page (length places) then slice_set places page new else places ++ new ∷ []

abbrev pub with_delta_places : ℕ → List Place → List (List Place) → List (List Place)
with_delta_places page new places =
    slice_set places page (slice_index_or places page [] ++ new)

abbrev pub with_places : Change → List Place → PagePlaces → PagePlaces
with_places (change.Meta numbers) new places = record places { meta = new }
with_places (change.Policy number text) new places =
    record places { policies = map.insert places.policies number new }
with_places (change.Document number written) new places =
    record places { documents = map.insert places.documents number new }
with_places (change.Gone number) new places =
    record places { documents = map.remove places.documents number }
with_places (change.Base page payload) new places =
    record places { terms = with_base_places page new places.terms }
with_places (change.Delta page payload) new places =
    record places { terms = with_delta_places page new places.terms }

abbrev pub places_after : List Told → PagePlaces → PagePlaces
places_after [] places = places
places_after (t ∷ told) places =
    places_after told (with_places t.change (places_from t.at (item_parts t.item)) places)
