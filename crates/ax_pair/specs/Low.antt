-- The low pair with which the payload of a base begins, whatever follows it.
-- From the store's own file format (docs/FORMAT.md, "Bases"); no other document has it.
use Rattle.std.specs.Prelude.{◌≡◌, ℕ, ◌<◌, ◌^◌, List, [], ◌++◌, length, take, drop, Option, Some, None, nat_le, if◌then◌else◌, option_and_then}
use Rattle.ax_gap.specs.Reading.{first_varint, at_most}
use Rattle.ax_gap.specs.Varint.{varint}
use Rattle.ax_pair.specs.declared.pair.Pair.{Pair}

-- the first pair of all
abbrev pub first_pair : Pair
first_pair = record { term = []; number = 0 }

-- A pair at the front of a payload: the length of its term, the term, and the number.
abbrev pub low_bytes : Pair → List ℕ
low_bytes low = varint (length low.term) ++ low.term ++ varint low.number

-- the bytes begin with this low pair
pub record BeginsWithLow (bytes : List ℕ) (low : Pair) : Type 0 where
  pub rest : List ℕ
  pub spelled : bytes ≡ low_bytes low ++ rest
  pub short : length low.term < 2 ^ 32
  pub number : low.number < 2 ^ 32

-- the number below 2^32 whose varint comes first, and the bytes after it
abbrev pub first_number : List ℕ → Option (ℕ × List ℕ)
first_number bytes = at_most 4294967295 (first_varint bytes)

-- a pair of this term, and of the number that comes first
abbrev pub pair_of : List ℕ → Option (ℕ × List ℕ) → Option Pair
pair_of term None = None
pair_of term (Some found) = Some (record { term = term; number = found.0 })

-- the pair whose term is the first bytes of those that were found, as many as their number says
abbrev pub pair_behind : ℕ × List ℕ → Option Pair
pair_behind found =
    if nat_le found.0 (length found.1)
    then pair_of (take found.0 found.1) (first_number (drop found.0 found.1))
    else None

-- the low pair with which the bytes begin
abbrev pub low_in : List ℕ → Option Pair
low_in bytes = option_and_then pair_behind (first_number bytes)
