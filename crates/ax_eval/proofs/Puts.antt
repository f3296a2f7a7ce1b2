-- A loop that makes of a list what a function of lists makes: what was passed stays, and the function
-- is applied to what is left.
use Rattle.std.proofs.Common.{◌≡◌, ℕ, ◌+◌, ◌<◌, List, [], ◌∷◌, ◌++◌, length, take, drop, set, get_or, sym, ap, ap₂, ◌∙◌, append_assoc}
use Rattle.std.proofs.lemmas.List.{drop_more, take_more, take-append-drop, take-set, drop-set}

left_at : {X : Type 0} (xs : List X) (i : ℕ) (x : X) → i < length xs → x ≡ get_or xs i x
    → drop i xs ≡ x ∷ drop (i + 1) xs
left_at xs i x l e = drop_more xs i x l ∙ ap (λ y. y ∷ drop (i + 1) xs) (sym e)

passed : {X : Type 0} (xs : List X) (i : ℕ) (x : X) → i < length xs → x ≡ get_or xs i x
    → take (i + 1) xs ≡ take i xs ++ x ∷ []
passed xs i x l e = take_more xs i x l ∙ ap (λ y. take i xs ++ y ∷ []) (sym e)

-- the function passes the element
pub goes_on : {X : Type 0} (f : List X → List X) (xs : List X) (i : ℕ) (x : X) → i < length xs
    → x ≡ get_or xs i x → f (x ∷ drop (i + 1) xs) ≡ x ∷ f (drop (i + 1) xs)
    → take i xs ++ f (drop i xs) ≡ f xs → take (i + 1) xs ++ f (drop (i + 1) xs) ≡ f xs
goes_on f xs i x l e passes before =
    ap (λ s. s ++ f (drop (i + 1) xs)) (passed xs i x l e)
    ∙ append_assoc (take i xs) (x ∷ []) (f (drop (i + 1) xs))
    ∙ ap (λ s. take i xs ++ s) (sym passes ∙ ap f (sym (left_at xs i x l e))) ∙ before

-- the function stops at the element
pub stops : {X : Type 0} (f : List X → List X) (xs r : List X) (i : ℕ) (x : X) → i < length xs
    → x ≡ get_or xs i x → f (x ∷ drop (i + 1) xs) ≡ r → take i xs ++ f (drop i xs) ≡ f xs
    → f xs ≡ take i xs ++ r
stops f xs r i x l e is before =
    sym before ∙ ap (λ s. take i xs ++ s) (ap f (left_at xs i x l e) ∙ is)

pub set_parts : {X : Type 0} (xs : List X) (i : ℕ) (y : X) → i < length xs
    → set xs i y ≡ take i xs ++ y ∷ drop (i + 1) xs
set_parts xs i y l =
    sym (take-append-drop i (set xs i y)) ∙ ap₂ (λ s t. s ++ t) (take-set xs i y) (drop-set xs i y l)
