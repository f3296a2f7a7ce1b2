-- The term changes that bytes spell, behind a term or from the first on. Only clauses of private
-- functions and the views cite these.
use Rattle.std.specs.Prelude.{◌≡◌, ℕ, ◌+◌, ◌<◌, ◌^◌, List, [], ◌++◌, length}
use Rattle.ax_gap.specs.Gaps.{IsRisingList, gaps}
use Rattle.ax_leaf.specs.ShortTerm.{short_term}
use Rattle.ax_delta.specs.Changes.{TermChange}
use Rattle.ax_delta.specs.Payload.{list_after, AreDisjoint, AreGood, AreAfter, AreTermChanges}
use Rattle.ax_delta.specs.Reading.{changes_in}

-- the bytes are those of so many term changes, whose terms rise, and the first of which is after
-- `last`
pub record IsListAfter (last : List ℕ) (count : ℕ) (bytes : List ℕ) (changes : List TermChange) : Type 0 where
  pub spelled : bytes ≡ list_after last changes
  pub counted : length changes ≡ count
  pub are : AreAfter last changes

abbrev pub HasListAfter : List ℕ → ℕ → List ℕ → Type 0
HasListAfter last count bytes = (changes : List TermChange) × IsListAfter last count bytes changes

-- the bytes are those of so many term changes, whose terms rise
pub record IsChangeList (count : ℕ) (bytes : List ℕ) (changes : List TermChange) : Type 0 where
  pub spelled : bytes ≡ list_after [] changes
  pub counted : length changes ≡ count
  pub are : AreTermChanges changes

abbrev pub HasChangeList : ℕ → List ℕ → Type 0
HasChangeList count bytes = (changes : List TermChange) × IsChangeList count bytes changes

-- the bytes are what is read of them behind `last`
pub record Spells (last : List ℕ) (count : ℕ) (bytes : List ℕ) : Type 0 where
  pub spelled : bytes ≡ list_after last (changes_in count last bytes)
  pub counted : length (changes_in count last bytes) ≡ count
  pub good : AreGood (changes_in count last bytes)

-- the bytes begin with a term change of these parts, of which nothing is said but that each list
-- rises and one of them has a number
pub record Begins (bytes : List ℕ) (shared : ℕ) (part added dropped after : List ℕ) : Type 0 where
  pub spelled : bytes ≡ short_term shared part ++ (gaps added ++ (gaps dropped ++ after))
  pub some : 0 < length added + length dropped
  pub additions : IsRisingList added
  pub removals : IsRisingList dropped

-- the same of any numbers, none of them in both lists: the term has so many bytes in common with the one before and these
-- behind them
pub record BeginsChange (bytes : List ℕ) (shared : ℕ) (part after : List ℕ) : Type 0 where
  pub added : List ℕ
  pub dropped : List ℕ
  pub begins : Begins bytes shared part added dropped after
  pub disjoint : AreDisjoint added dropped
  pub few : shared < 2 ^ 32
  pub short : length part < 2 ^ 32
