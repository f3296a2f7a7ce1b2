-- Names that rise strictly by their bytes, as the members of a map do in its canonical text: each
-- is before the next, so that no name stands twice.
use Rattle.std.specs.Prelude.{ℕ, List, [], ◌∷◌, Bool, true, ◌&&◌}
use Rattle.std.specs.Ordering.{nat_cmp, is_lt}
use Rattle.std.specs.Cmp.Lexicographic.{slice_cmp}

-- a text is before another by bytes
abbrev pub is_before : List ℕ → List ℕ → Bool
is_before a b = is_lt (slice_cmp nat_cmp a b)

-- each name is before the next
abbrev pub is_rising : List (List ℕ) → Bool
is_rising [] = true
is_rising (name ∷ []) = true
is_rising (name ∷ next ∷ rest) = is_before name next && is_rising (next ∷ rest)
