-- Gap lists: a list of numbers that rise strictly, as the varint of their count and then a varint
-- for each number. The first is the number; each later one is its difference from the number
-- before, less 1. Delta coding of sorted numbers as in the posting lists of text indexes (Zobel and
-- Moffat, "Inverted files for text search engines", 2006).
use Rattle.std.specs.Prelude.{◌≡◌, ℕ, ◌+◌, ◌-◌, ◌<◌, ◌≤◌, ◌^◌, List, [], ◌∷◌, ◌++◌, length, All}
use Rattle.std.specs.List.Sorted.{IsStrictlyIncreasing}
use Rattle.ax_gap.specs.Varint.{IsVarint, varint}

-- what a gap list can hold: numbers of 32 bits that rise strictly
pub record IsRisingList (list : List ℕ) : Type 0 where
  pub rising : IsStrictlyIncreasing list
  pub numbers : All (λ n. n < 2 ^ 32) list

-- The bytes are the gaps of these numbers, none of which is below `least`. A gap is how far a
-- number is above the least one that may stand there: 0 at first, and then the number before, plus
-- 1.
abbrev pub AreGaps : ℕ → List ℕ → List ℕ → Type 0
AreGaps least [] bytes = bytes ≡ []
AreGaps least (n ∷ list) bytes =
    (least ≤ n) × (n < 2 ^ 32)
    × (gap : List ℕ) × (rest : List ℕ) × (bytes ≡ gap ++ rest) × IsVarint gap (n - least) × AreGaps (n + 1) list rest

-- The grammar: the bytes are the gap list of these numbers.
abbrev pub IsGapList : List ℕ → List ℕ → Type 0
IsGapList bytes list =
    (count : List ℕ) × (rest : List ℕ) × (bytes ≡ count ++ rest) × IsVarint count (length list) × AreGaps 0 list rest

-- the gaps of numbers that are not below `least`
unfoldable pub gaps_from : ℕ → List ℕ → List ℕ
gaps_from least [] = []
gaps_from least (n ∷ list) = varint (n - least) ++ gaps_from (n + 1) list

-- the one gap list of these numbers
unfoldable pub gaps : List ℕ → List ℕ
gaps list = varint (length list) ++ gaps_from 0 list
