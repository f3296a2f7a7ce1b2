-- A term as it is written after another: how many bytes at their beginnings they have in common,
-- and its bytes behind those. Bases and deltas write their terms so.
use Rattle.std.specs.Prelude.{◌≡◌, ℕ, ◌+◌, ◌<◌, ◌≤◌, ◌^◌, List, [], ◌∷◌, ◌++◌, Option, Some, None, length, take, slice_index}
use Rattle.std.specs.declared.cmp.Ordering.TheVariants.{Less}
use Rattle.std.specs.Ordering.{nat_cmp}
use Rattle.std.specs.Cmp.Lexicographic.{slice_cmp}
use Rattle.ax_gap.specs.Varint.{varint}
use Rattle.ax_leaf.specs.Payload.{common}

-- the spelling: how many bytes are shared, how many are not, and those
unfoldable pub short_term : ℕ → List ℕ → List ℕ
short_term shared rest = varint shared ++ varint (length rest) ++ rest

-- the whole term, after `last`
abbrev pub whole_term : List ℕ → ℕ → List ℕ → List ℕ
whole_term last shared rest = take shared last ++ rest

-- The term comes after `last` in the order of bytes, and has no byte more in common with it than it
-- says.
pub record Follows (last : List ℕ) (shared : ℕ) (rest : List ℕ) : Type 0 where
  pub within : shared ≤ length last
  pub short : shared + length rest < 2 ^ 32
  pub after : slice_cmp nat_cmp last (whole_term last shared rest) ≡ Less
  pub longest : common last (whole_term last shared rest) ≡ shared

-- The rest begins with a byte, which is greater than the byte of `last` behind the shared ones, where
-- there is one.
abbrev pub Exceeds : List ℕ → Option ℕ → Type 0
Exceeds [] byte = ⊥
Exceeds (b ∷ rest) None = Unit {0}
Exceeds (b ∷ rest) (Some byte) = byte < b

-- the bytes are those with which a term begins, as far as both reach
abbrev pub HasFront : List ℕ → List ℕ → Type 0
HasFront front term = (k : ℕ) → k < length front → k < length term → slice_index front k ≡ slice_index term k
