-- The postings that bytes spell, behind a term or from the first on. Only clauses of private
-- functions and the views of a leaf and of a cursor cite these.
use Rattle.std.specs.Prelude.{◌≡◌, ℕ, ◌<◌, ◌^◌, List, [], ◌++◌, length}
use Rattle.ax_gap.specs.Gaps.{IsRisingList, gaps}
use Rattle.ax_leaf.specs.Pairs.{Posting}
use Rattle.ax_leaf.specs.Payload.{list_after, AreGood, AreAfter, ArePostings}
use Rattle.ax_leaf.specs.Reading.{postings_in}
use Rattle.ax_leaf.specs.ShortTerm.{short_term}

-- the bytes are those of so many postings, whose terms rise, and the first of which is after `last`
pub record IsListAfter (last : List ℕ) (count : ℕ) (bytes : List ℕ) (postings : List Posting) : Type 0 where
  pub spelled : bytes ≡ list_after last postings
  pub counted : length postings ≡ count
  pub are : AreAfter last postings

abbrev pub HasListAfter : List ℕ → ℕ → List ℕ → Type 0
HasListAfter last count bytes = (postings : List Posting) × IsListAfter last count bytes postings

-- the bytes are those of so many postings, whose terms rise
pub record IsTermList (count : ℕ) (bytes : List ℕ) (postings : List Posting) : Type 0 where
  pub spelled : bytes ≡ list_after [] postings
  pub counted : length postings ≡ count
  pub are : ArePostings postings

abbrev pub HasTermList : ℕ → List ℕ → Type 0
HasTermList count bytes = (postings : List Posting) × IsTermList count bytes postings

-- the bytes are what is read of them behind `last`
pub record Spells (last : List ℕ) (count : ℕ) (bytes : List ℕ) : Type 0 where
  pub spelled : bytes ≡ list_after last (postings_in count last bytes)
  pub counted : length (postings_in count last bytes) ≡ count
  pub good : AreGood (postings_in count last bytes)

-- the bytes begin with a posting of these parts
pub record Begins (bytes : List ℕ) (shared : ℕ) (part numbers after : List ℕ) : Type 0 where
  pub spelled : bytes ≡ short_term shared part ++ (gaps numbers ++ after)
  pub some : 0 < length numbers
  pub rising : IsRisingList numbers

-- the same of any numbers: the term of the posting has so many bytes in common with the one before and these behind them
pub record BeginsPosting (bytes : List ℕ) (shared : ℕ) (part after : List ℕ) : Type 0 where
  pub numbers : List ℕ
  pub begins : Begins bytes shared part numbers after
  pub few : shared < 2 ^ 32
  pub short : length part < 2 ^ 32
