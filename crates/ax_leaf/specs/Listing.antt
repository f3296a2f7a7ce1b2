-- Terms that are listed, each written after the one before, and what stands behind each: a base has a gap list there, a
-- delta two. Whoever lists them says what it is that bytes begin with an entry: its term has so many bytes in common with
-- the one before and these behind them, and these bytes come after the entry. Only clauses that check a list cite these.
use Rattle.std.specs.Prelude.{◌≡◌, ℕ, ◌≤◌, List, [], length, zero, suc}
use Rattle.ax_leaf.specs.ShortTerm.{whole_term, Follows}

abbrev pub Beginning : Type 1
Beginning = List ℕ → ℕ → List ℕ → List ℕ → Type 0

-- the bytes begin with an entry, whose term comes after `last`, and with that behind it the others
pub record IsNext (Begins : Beginning) (AreOthers : List ℕ → List ℕ → Type 0) (last bytes : List ℕ) : Type 0 where
  pub shared : ℕ
  pub part : List ℕ
  pub after : List ℕ
  pub begins : Begins bytes shared part after
  pub follows : Follows last shared part
  pub others : AreOthers (whole_term last shared part) after

-- the bytes are so many entries, whose terms rise, and the first of which is after `last`
unfoldable pub AreListed : Beginning → ℕ → List ℕ → List ℕ → Type 0
AreListed Begins zero last bytes = bytes ≡ []
AreListed Begins (suc count) last bytes = IsNext Begins (AreListed Begins count) last bytes

-- the bytes begin with the first entry, and so many others are behind it
pub record IsFirst (Begins : Beginning) (count : ℕ) (bytes : List ℕ) : Type 0 where
  pub part : List ℕ
  pub after : List ℕ
  pub begins : Begins bytes 0 part after
  pub others : AreListed Begins count part after

-- the bytes are so many entries, whose terms rise
unfoldable pub IsListing : Beginning → ℕ → List ℕ → Type 0
IsListing Begins zero bytes = bytes ≡ []
IsListing Begins (suc count) bytes = IsFirst Begins count bytes

-- an entry stands behind others, with this term, and these bytes come after it
pub record IsBehind (Begins : Beginning) (HasOthers : List ℕ → List ℕ → Type 0) (term bytes : List ℕ) : Type 0 where
  pub last : List ℕ
  pub from : List ℕ
  pub shared : ℕ
  pub part : List ℕ
  pub others : HasOthers last from
  pub begins : Begins from shared part bytes
  pub within : shared ≤ length last
  pub is : term ≡ whole_term last shared part

-- so many entries stand one behind another: the last has this term, and these bytes come after it
unfoldable pub Reaches : Beginning → List ℕ → ℕ → List ℕ → List ℕ → Type 0
Reaches Begins list zero term bytes = (term ≡ []) × (bytes ≡ list)
Reaches Begins list (suc count) term bytes = IsBehind Begins (Reaches Begins list count) term bytes
