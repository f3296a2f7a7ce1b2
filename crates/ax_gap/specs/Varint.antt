-- Varints: a whole number as bytes, seven bits in each, the low ones first, and the top bit set in
-- each byte but the last. This is the base-128 varint of the Protocol Buffers encoding (unsigned
-- LEB128), in its shortest form alone.
use Rattle.std.specs.Prelude.{◌≡◌, ℕ, ◌+◌, ◌/◌, ◌%◌, ◌<◌, ◌≤◌, List, [], ◌∷◌, nat_lt, zero, suc, if◌then◌else◌}

-- The grammar, by cases on the bytes: a last byte is the number. A byte before others has the
-- number's low seven bits, and only a number that has more bits than those goes on: so `84 00` is
-- not a varint of 4.
abbrev pub IsVarint : List ℕ → ℕ → Type 0
IsVarint [] n = ⊥
IsVarint (byte ∷ []) n = (byte < 128) × (byte ≡ n)
IsVarint (byte ∷ next ∷ rest) n = (128 ≤ n) × (byte ≡ 128 + n % 128) × IsVarint (next ∷ rest) (n / 128)

-- a number in groups of seven bits, with at most so many groups before the last
unfoldable pub groups : ℕ → ℕ → List ℕ
groups zero n = n ∷ []
groups (suc more) n = if nat_lt n 128 then n ∷ [] else (128 + n % 128) ∷ groups more (n / 128)

-- The one varint of a number n. It has never more than n groups before the last.
unfoldable pub varint : ℕ → List ℕ
varint n = groups n n
