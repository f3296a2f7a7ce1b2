-- A test that holds at no place of a list fails at each element.
use Rattle.std.proofs.Common.{◌≡◌, ℕ, zero, suc, ◌<◌, ◌≤◌, List, [], ◌∷◌, take, length, get_or}
use Rattle.std.proofs.Common.{Bool, true, false, ◌||◌, refl, ap, ◌∙◌, arith}
use Rattle.std.specs.List.{list_any}

false_if_not_true : (b : Bool) → (b ≡ true → ⊥) → b ≡ false
false_if_not_true true h = absurd (h refl)
false_if_not_true false h = refl

pub none_in_front : (p : ℕ → Bool) (xs : List ℕ) (n : ℕ) → n ≤ length xs
    → ((k : ℕ) → k < n → p (get_or xs k 0) ≡ true → ⊥) → list_any p (take n xs) ≡ false
none_in_front p [] zero within nowhere = refl
none_in_front p [] (suc n) within nowhere = absurd (omega (arith, within))
none_in_front p (x ∷ xs) zero within nowhere = refl
none_in_front p (x ∷ xs) (suc n) within nowhere =
    let first : p x ≡ false = false_if_not_true (p x) (nowhere 0 (omega arith)) in
    ap (λ b. b || list_any p (take n xs)) first
    ∙ none_in_front p xs n (omega (arith, within)) (λ k h. nowhere (suc k) (omega (arith, h)))

pub nowhere_in : (p : ℕ → Bool) (xs : List ℕ)
    → ((k : ℕ) → k < length xs → p (get_or xs k 0) ≡ true → ⊥) → list_any p xs ≡ false
nowhere_in p [] nowhere = refl
nowhere_in p (x ∷ xs) nowhere =
    let first : p x ≡ false = false_if_not_true (p x) (nowhere 0 (omega arith)) in
    ap (λ b. b || list_any p xs) first ∙ nowhere_in p xs (λ k h. nowhere (suc k) (omega (arith, h)))
