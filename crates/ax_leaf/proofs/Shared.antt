-- What two terms have in common at their beginnings, place by place.
use Rattle.std.proofs.Common.{◌≡◌, ℕ, ◌≤◌, List, [], ◌∷◌, length, drop, min, arith, refl, nat_eq, true, ◌∙◌, ◌+◌, sym, subst, ◌⊎◌, ⊎_elim, inl, inr, ◌<◌}
use Rattle.std.proofs.lemmas.Bool.{cases_lt, cond-true, eq-eqb}
use Rattle.std.proofs.lemmas.List.{length-drop}
use Rattle.std.specs.Cmp.Lexicographic.{same_text}
use Rattle.std.specs.List.{common_prefix_len}
use Rattle.std.specs.Str.{bytes_eq}

none_behind : (xs ys : List ℕ) → length ys ≡ 0 → common_prefix_len nat_eq xs ys ≡ 0
none_behind [] ys h = refl
none_behind (x ∷ xs) [] h = refl
none_behind (x ∷ xs) (y ∷ ys) h = absurd (omega arith)

none_before : (xs ys : List ℕ) → length xs ≡ 0 → common_prefix_len nat_eq xs ys ≡ 0
none_before [] ys h = refl
none_before (x ∷ xs) ys h = absurd (omega arith)

one_is_past : (m n i : ℕ) → min m n ≤ i → (m ≤ i) ⊎ (n ≤ i)
one_is_past m n i h = ⊎_elim (λ (l : i < m). inr (omega arith)) (λ (l : m ≤ i). inl l) (cases_lt i m)

pub no_more : (xs ys : List ℕ) (i : ℕ) → min (length xs) (length ys) ≤ i → common_prefix_len nat_eq (drop i xs) (drop i ys) ≡ 0
no_more xs ys i h =
    ⊎_elim
    (λ (l : length xs ≤ i). none_before (drop i xs) (drop i ys) (omega (arith, length-drop i xs)))
    (λ (l : length ys ≤ i). none_behind (drop i xs) (drop i ys) (omega (arith, length-drop i ys)))
    (one_is_past (length xs) (length ys) i h)

-- a term has all its bytes in common with itself
all_in_common : (xs : List ℕ) → common_prefix_len nat_eq xs xs ≡ length xs
all_in_common [] = refl
all_in_common (x ∷ xs) = cond-true (nat_eq x x) (1 + common_prefix_len nat_eq xs xs) 0 (eq-eqb x x refl) ∙ omega (arith, all_in_common xs)

pub all_of_one : (xs ys : List ℕ) → true ≡ bytes_eq xs ys → length xs ≡ common_prefix_len nat_eq xs ys
all_of_one xs ys h = subst (λ (bs : List ℕ). length xs ≡ common_prefix_len nat_eq xs bs) (same_text xs ys h) (sym (all_in_common xs))
