-- Names that stand side by side.
use Rattle.std.specs.Prelude.{ℕ, List, [], ◌∷◌, Bool, true, ◌&&◌, not}
use Rattle.std.specs.Str.{bytes_eq}

-- no name is the same as the one before it, where this one stands before the first
abbrev pub differ_from : List ℕ → List (List ℕ) → Bool
differ_from last [] = true
differ_from last (name ∷ names) = not (bytes_eq name last) && differ_from name names

abbrev pub neighbours_differ : List (List ℕ) → Bool
neighbours_differ [] = true
neighbours_differ (name ∷ names) = differ_from name names
