-- The rows that OFFSET and LIMIT choose are among the first so many.
use Rattle.std.proofs.Common.{◌≡◌, ℕ, zero, suc, List, [], ◌∷◌, take, drop, Option, Some, None, refl, ap, ◌∙◌}
use Rattle.std.proofs.lemmas.List.{drop-take}
use Rattle.ax_mean.specs.Answer.{limited}
use Rattle.ax_rows.specs.Front.{room_of}

take_twice : {X : Type 0} (n : ℕ) (xs : List X) → take n (take n xs) ≡ take n xs
take_twice zero xs = refl
take_twice (suc n) [] = refl
take_twice (suc n) (x ∷ xs) = ap (λ ys. x ∷ ys) (take_twice n xs)

pub chosen_among : {X : Type 0} (skip : ℕ) (limit : Option ℕ) (xs : List X)
    → limited limit (drop skip (limited (room_of skip limit) xs)) ≡ limited limit (drop skip xs)
chosen_among skip None xs = refl
chosen_among skip (Some limit) xs =
    ap (take limit) (drop-take skip limit xs) ∙ take_twice limit (drop skip xs)
