-- The test of two ids, and what it says.
use Rattle.std.proofs.Common.{◌≡◌, ℕ, List, Bool, true, false, refl, sym, ap, ◌∙◌}
use Rattle.std.specs.Str.{bytes_eq}
use Rattle.std.proofs.lemmas.Slice.Eq.{bytes_eq-Decides}

pub same_from_eq : (a b : List ℕ) → bytes_eq a b ≡ true → a ≡ b
same_from_eq a b e = (bytes_eq-Decides a b).0 e

pub bytes_eq-self : (a : List ℕ) → bytes_eq a a ≡ true
bytes_eq-self a = (bytes_eq-Decides a a).1 refl

-- where true on one side gives true on the other, false on the other gives false on the one
false_back : (x y : Bool) → (x ≡ true → y ≡ true) → y ≡ false → x ≡ false
false_back false y h e = refl
false_back true y h e = sym (h refl) ∙ e

pub bytes_eq-false_sym : (a b : List ℕ) → bytes_eq a b ≡ false → bytes_eq b a ≡ false
bytes_eq-false_sym a b e =
    false_back (bytes_eq b a) (bytes_eq a b)
    (λ h. (bytes_eq-Decides a b).1 (sym (same_from_eq b a h))) e

-- an id that is another's is not also one that differs from it
pub bytes_eq-other : (a b other : List ℕ) → bytes_eq a b ≡ true → bytes_eq b other ≡ false
    → bytes_eq a other ≡ false
bytes_eq-other a b other same differs = ap (λ x. bytes_eq x other) (same_from_eq a b same) ∙ differs
