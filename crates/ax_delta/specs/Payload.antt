-- The payload of a delta of a term page: for each term that it changes, shortened by what it has in
-- common with the term before as in a base, the numbers that are added and those that are dropped.
use Rattle.std.specs.Prelude.{◌≡◌, ℕ, ◌+◌, ◌<◌, ◌^◌, List, [], ◌∷◌, ◌++◌, length, true, false}
use Rattle.std.specs.declared.cmp.Ordering.TheVariants.{Less}
use Rattle.std.specs.Ordering.{nat_cmp}
use Rattle.std.specs.Cmp.Lexicographic.{slice_cmp}
use Rattle.ax_gap.specs.Gaps.{IsRisingList, gaps}
use Rattle.ax_gap.specs.Varint.{varint}
use Rattle.ax_leaf.specs.Payload.{term_after}
use Rattle.ax_delta.specs.Changes.{TermChange}
use Rattle.ax_delta.specs.Said.{has_number}

-- term changes, each with its term after the one before, and its numbers as two gap lists
unfoldable pub list_after : List ℕ → List TermChange → List ℕ
list_after last [] = []
list_after last (change ∷ changes) =
    term_after last change.term ++ gaps change.added ++ gaps change.dropped ++ list_after change.term changes

-- the payload of these term changes
unfoldable pub delta : List TermChange → List ℕ
delta changes = varint (length changes) ++ list_after [] changes

-- no number is in both
unfoldable pub AreDisjoint : List ℕ → List ℕ → Type 0
AreDisjoint a b = (n : ℕ) → has_number n a ≡ true → has_number n b ≡ false

-- what a term change can be: it has a number, its numbers rise, and none is both added and dropped
pub record IsTermChange (change : TermChange) : Type 0 where
  pub short : length change.term < 2 ^ 32
  pub some : 0 < length change.added + length change.dropped
  pub additions : IsRisingList change.added
  pub removals : IsRisingList change.dropped
  pub disjoint : AreDisjoint change.added change.dropped

-- each is what a term change can be
abbrev pub AreGood : List TermChange → Type 0
AreGood [] = Unit {0}
AreGood (change ∷ changes) = IsTermChange change × AreGood changes

-- each term is after the one before, by bytes, and the first after `last`
abbrev pub AreAfter : List ℕ → List TermChange → Type 0
AreAfter last [] = Unit {0}
AreAfter last (change ∷ changes) =
    (slice_cmp nat_cmp last change.term ≡ Less) × IsTermChange change × AreAfter change.term changes

abbrev pub AreTermChanges : List TermChange → Type 0
AreTermChanges [] = Unit {0}
AreTermChanges (change ∷ changes) = IsTermChange change × AreAfter change.term changes

-- The grammar: the bytes are the payload of these term changes, at least one, whose terms rise. The
-- count has 32 bits.
pub record IsDelta (bytes : List ℕ) (changes : List TermChange) : Type 0 where
  pub spelled : bytes ≡ delta changes
  pub some : 0 < length changes
  pub count : length changes < 2 ^ 32
  pub are : AreTermChanges changes
