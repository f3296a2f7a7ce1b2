-- The payload of a base: the low pair of a term page, and the pairs that it holds, with their terms
-- shortened by what they have in common with the term before (prefix or front coding, as in Witten,
-- Moffat and Bell, "Managing Gigabytes", 1999).
use Rattle.std.specs.Prelude.{◌≡◌, ℕ, ◌-◌, ◌<◌, ◌^◌, List, [], ◌∷◌, ◌++◌, length, drop, nat_eq}
use Rattle.std.specs.declared.cmp.Ordering.TheVariants.{Less}
use Rattle.std.specs.Ordering.{nat_cmp}
use Rattle.std.specs.List.{common_prefix_len}
use Rattle.std.specs.Cmp.Lexicographic.{slice_cmp}
use Rattle.ax_gap.specs.Gaps.{IsRisingList, gaps}
use Rattle.ax_gap.specs.Varint.{varint}
use Rattle.ax_pair.specs.declared.pair.Pair.{Pair}
use Rattle.ax_pair.specs.Order.{BeginsFrom}
use Rattle.ax_leaf.specs.Pairs.{Posting, pairs_of}

-- how many bytes at their beginnings two terms have in common
abbrev pub common : List ℕ → List ℕ → ℕ
common = common_prefix_len nat_eq

-- A term after another: the length of what they have in common, that of the rest, and the rest.
unfoldable pub term_after : List ℕ → List ℕ → List ℕ
term_after last term =
    varint (common last term) ++ varint (length term - common last term) ++ drop (common last term) term

-- postings, each with its term after the one before, and its numbers as a gap list
unfoldable pub list_after : List ℕ → List Posting → List ℕ
list_after last [] = []
list_after last (posting ∷ postings) = term_after last posting.term ++ gaps posting.numbers ++ list_after posting.term postings

-- the payload of these postings under this low pair
unfoldable pub leaf : Pair → List Posting → List ℕ
leaf low postings =
    varint (length low.term) ++ low.term ++ varint low.number ++ varint (length postings) ++ list_after [] postings

-- what a posting can be: it has a number, and its numbers rise
pub record IsPosting (posting : Posting) : Type 0 where
  pub short : length posting.term < 2 ^ 32
  pub some : 0 < length posting.numbers
  pub rising : IsRisingList posting.numbers

-- each is what a posting can be
abbrev pub AreGood : List Posting → Type 0
AreGood [] = Unit {0}
AreGood (posting ∷ postings) = IsPosting posting × AreGood postings

-- each term is after the one before, by bytes, and the first after `last`
abbrev pub AreAfter : List ℕ → List Posting → Type 0
AreAfter last [] = Unit {0}
AreAfter last (posting ∷ postings) =
    (slice_cmp nat_cmp last posting.term ≡ Less) × IsPosting posting × AreAfter posting.term postings

abbrev pub ArePostings : List Posting → Type 0
ArePostings [] = Unit {0}
ArePostings (posting ∷ postings) = IsPosting posting × AreAfter posting.term postings

-- The grammar: the bytes are the payload of these postings, whose terms rise, under this low pair,
-- before which no pair is. A length and a count have 32 bits.
pub record IsLeaf (bytes : List ℕ) (low : Pair) (postings : List Posting) : Type 0 where
  pub spelled : bytes ≡ leaf low postings
  pub short : length low.term < 2 ^ 32
  pub number : low.number < 2 ^ 32
  pub count : length postings < 2 ^ 32
  pub are : ArePostings postings
  pub begins : BeginsFrom low (pairs_of postings)
