-- How the fields of a list of pairs stand for what callers see.
use Rattle.std.specs.Prelude.{ℕ, ◌-◌, ◌≤◌, List, length, take, drop, map, All}
use Rattle.ax_pair.specs.declared.pair.Pair.{Pair}
use Rattle.ax_pair_list.specs.declared.pair_list.Entry.{Entry}
use Rattle.ax_pair_list.specs.declared.pair_list.PairList.TheInside.{Inside}

-- the bytes between two places
abbrev pub bytes_between : ℕ → ℕ → List ℕ → List ℕ
bytes_between start end terms = take (end - start) (drop start terms)

-- the pair of an entry, whose term stands among these bytes
abbrev pub pair_of : List ℕ → Entry → Pair
pair_of terms entry = record { term = bytes_between entry.start entry.end terms; number = entry.number }

abbrev pub pairs_of : List ℕ → List Entry → List Pair
pairs_of terms entries = map (pair_of terms) entries

-- the place of an entry's term is within so many bytes
abbrev pub IsWithin : ℕ → Entry → Type 0
IsWithin size entry = (entry.start ≤ entry.end) × (entry.end ≤ size)

abbrev pub pairs_seen : Inside → List Pair
pairs_seen list = pairs_of list.terms.items list.entries.items

abbrev pub AreWithin : Inside → Type 0
AreWithin list = All (IsWithin (length list.terms.items)) list.entries.items
