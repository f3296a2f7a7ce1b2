-- A range of one term, by its last byte and the bytes before it.
use Rattle.std.proofs.Common.{◌≡◌, ℕ, List, [], ◌∷◌, ◌++◌, refl, ap, Bool, true, false, ◌&&◌, nat_eq}
use Rattle.std.specs.Cmp.Lexicographic.{pointwise}
use Rattle.std.specs.Str.{bytes_eq}
use Rattle.std.proofs.lemmas.Bool.{and_right}

never_empty : (bytes : List ℕ) (last : ℕ) → bytes_eq (bytes ++ last ∷ []) [] ≡ false
never_empty [] last = refl
never_empty (x ∷ bytes) last = refl

never_ends : (bytes : List ℕ) (last : ℕ) → bytes_eq [] (bytes ++ last ∷ []) ≡ false
never_ends [] last = refl
never_ends (x ∷ bytes) last = refl

-- lists that end alike are the same where their fronts are
pub ends_alike : (front from : List ℕ) (last : ℕ) → nat_eq last 0 ≡ true → bytes_eq (front ++ last ∷ []) (from ++ 0 ∷ []) ≡ pointwise nat_eq front from
ends_alike [] [] last h = ap (λ (b : Bool). b && true) h
ends_alike [] (y ∷ from) last h = and_right (nat_eq last y) (bytes_eq [] (from ++ 0 ∷ [])) (never_ends from 0)
ends_alike (x ∷ front) [] last h = and_right (nat_eq x 0) (bytes_eq (front ++ last ∷ []) []) (never_empty front last)
ends_alike (x ∷ front) (y ∷ from) last h = ap (λ (b : Bool). nat_eq x y && b) (ends_alike front from last h)

pub ends_apart : (front from : List ℕ) (last : ℕ) → nat_eq last 0 ≡ false → bytes_eq (front ++ last ∷ []) (from ++ 0 ∷ []) ≡ false
ends_apart [] [] last h = ap (λ (b : Bool). b && true) h
ends_apart [] (y ∷ from) last h = and_right (nat_eq last y) (bytes_eq [] (from ++ 0 ∷ [])) (never_ends from 0)
ends_apart (x ∷ front) [] last h = and_right (nat_eq x 0) (bytes_eq (front ++ last ∷ []) []) (never_empty front last)
ends_apart (x ∷ front) (y ∷ from) last h = and_right (nat_eq x y) _ (ends_apart front from last h)
