-- The terms of composites, one after another.
use Rattle.std.proofs.Common.{◌≡◌, ℕ, ◌+◌, ◌<◌, List, [], ◌∷◌, ◌++◌, map, take, length, get_or, Some, sym, ap, ◌∙◌, append_assoc}
use Rattle.std.specs.List.{slice_get}
use Rattle.std.proofs.lemmas.List.{take_more, map-append}
use Rattle.std.proofs.lemmas.Option.{slice_get_within, slice_get-get_or}
use Rattle.ax_mean.specs.declared.query.Order.{Order}

some_same : (x y : List Order) → Some x ≡ Some y → x ≡ y
some_same x y e = cc

one_taken : (xs : List (List Order)) (at : ℕ) (x : List Order) → Some x ≡ slice_get xs at
    → take (at + 1) xs ≡ take at xs ++ x ∷ []
one_taken xs at x e =
    let low : at < length xs = slice_get_within xs at x (sym e) in
    let is : get_or xs at x ≡ x = sym (some_same x (get_or xs at x) (e ∙ slice_get-get_or xs at x low)) in
    take_more xs at x low ∙ ap (λ y. take at xs ++ y ∷ []) is

-- the term of one more composite
pub term_more : (f : List Order → List ℕ) (xs : List (List Order)) (at : ℕ) (x : List Order)
    (old new whole : List (List ℕ)) (term : List ℕ) → Some x ≡ slice_get xs at → term ≡ f x
    → old ≡ whole ++ map f (take at xs) → new ≡ old ++ term ∷ []
    → new ≡ whole ++ map f (take (at + 1) xs)
term_more f xs at x old new whole term e t o n =
    n ∙ ap (λ ts. ts ++ term ∷ []) o
    ∙ ap (λ y. (whole ++ map f (take at xs)) ++ y ∷ []) t
    ∙ append_assoc whole (map f (take at xs)) (f x ∷ [])
    ∙ ap (λ ts. whole ++ ts) (sym (map-append f (take at xs) (x ∷ [])) ∙ ap (map f) (sym (one_taken xs at x e)))
