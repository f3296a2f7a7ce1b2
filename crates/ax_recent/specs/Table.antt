-- What the places of a table hold, and where an entry stands.
-- It is this project's own; it comes from no public document.
use Rattle.std.specs.Prelude.{◌≡◌, ◌≢◌, ℕ, ◌<◌, ◌⊎◌, List, length, take, Option, Some, None, option_map, slice_index_or}
use Rattle.std.specs.List.{filter_map}
use Rattle.ax_recent.specs.declared.entry.Entry.{Entry}
use Rattle.ax_recent.specs.Hash.{place_of}

-- the id of an entry: as many of its thirty bytes as the id has
abbrev pub id_of : Entry → List ℕ
id_of entry = take entry.len entry.bytes

-- an entry as callers see it: its id and its number
abbrev pub pair_of : Entry → List ℕ × ℕ
pair_of entry = (id_of entry, entry.number)

-- what a place holds is this id with this number
abbrev pub Holds : Option Entry → List ℕ → ℕ → Type 0
Holds place id number = option_map pair_of place ≡ Some (id, number)

-- what a place holds without an id: nothing where it held the id, else the same
abbrev pub IsWithout : Option Entry → Option Entry → List ℕ → Type 0
IsWithout after None id = after ≡ None
IsWithout after (Some entry) id =
    ((id_of entry ≡ id) × (after ≡ None)) ⊎ ((id_of entry ≢ id) × (after ≡ Some entry))

-- the entries of the places that are not empty
unfoldable pub entries_of : List (Option Entry) → List (List ℕ × ℕ)
entries_of places = filter_map (option_map pair_of) places

-- what the place of an id holds
abbrev pub at_place_of : List (Option Entry) → List ℕ → Option Entry
at_place_of places id = slice_index_or places (place_of id (length places)) None

-- each entry stands at the place of its id
abbrev pub AreAtTheirPlaces : List (Option Entry) → Type 0
AreAtTheirPlaces places = (at : ℕ) (entry : Entry) → at < length places → slice_index_or places at None ≡ Some entry
    → place_of (id_of entry) (length places) ≡ at

-- there are places, and each entry stands at the place of its id
pub record IsTable (places : List (Option Entry)) : Type 0 where
  pub some : 0 < length places
  pub placed : AreAtTheirPlaces places
