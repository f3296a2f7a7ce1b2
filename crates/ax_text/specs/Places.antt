-- Where a name that is not there yet stands among names that rise: those before the place are
-- before it by bytes, and it is before the one at the place.
use Rattle.std.specs.Prelude.{◌≡◌, ℕ, zero, suc, List, [], ◌∷◌, true}
use Rattle.ax_tree.specs.Rising.{is_before}

abbrev pub IsPlace : List ℕ → List (List ℕ) → ℕ → Type 0
IsPlace name [] place = place ≡ 0
IsPlace name (next ∷ rest) zero = is_before name next ≡ true
IsPlace name (first ∷ rest) (suc place) = (is_before first name ≡ true) × IsPlace name rest place
