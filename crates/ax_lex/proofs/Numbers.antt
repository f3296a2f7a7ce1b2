-- The value of digits, from those that are still to come.
use Rattle.std.proofs.lemmas.List.{drop_more}
use Rattle.std.proofs.Common.{◌≡◌, ℕ, ◌+◌, ◌-◌, ◌*◌, ◌<◌, ◌≤◌, List, [], ◌∷◌, length, drop, get_or, fold, ap, arith}

-- the value of digits behind those of this value
abbrev pub on_from : ℕ → List ℕ → ℕ
on_from value digits = fold (λ value digit. 10 * value + (digit - 48)) value digits

-- more digits never make it less
pub from_below : (digits : List ℕ) (value : ℕ) → value ≤ on_from value digits
from_below [] value = omega arith
from_below (digit ∷ digits) value = omega (arith, from_below digits (10 * value + (digit - 48)))

-- a digit more
pub one_more : (digits : List ℕ) (i value : ℕ) → i < length digits
    → on_from value (drop i digits) ≡ on_from (10 * value + (get_or digits i 0 - 48)) (drop
    (i + 1) digits)
one_more digits i value h = ap (on_from value) (drop_more digits i 0 h)

pub large_already : (digits : List ℕ) (i value : ℕ) → i < length digits
    → 10 * value + (get_or digits i 0 - 48) ≤ on_from value (drop i digits)
large_already digits i value h =
    rw (one_more digits i value h) (from_below (drop (i + 1) digits) (10 * value +
    (get_or digits i 0 - 48)))
