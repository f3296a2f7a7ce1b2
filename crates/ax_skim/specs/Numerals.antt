-- Digits as numbers of a document are written, where they have no sign.
use Rattle.std.specs.Prelude.{ℕ, List, [], ◌∷◌, length, Bool, true, false, not, ◌&&◌, ◌==◌, nat_le}
use Rattle.std.specs.Char.{is_ascii_digit}
use Rattle.std.specs.List.{list_all}

-- there is a first one, which is 0 only where it is the only one
abbrev pub begins_well : List ℕ → Bool
begins_well [] = false
begins_well (first ∷ []) = true
begins_well (first ∷ next ∷ rest) = not (first == 48)

-- at most 19 digits
abbrev pub is_numeral : List ℕ → Bool
is_numeral digits = nat_le (length digits) 19 && (list_all is_ascii_digit digits && begins_well digits)
