-- Tests of all elements of a list, and of some.
use Rattle.std.proofs.Common.{◌≡◌, ℕ, ◌<◌, zero, suc, List, [], ◌∷◌, length, get_or, Bool, true, ⊎_elim, refl, sym, ap, ◌∙◌, arith}
use Rattle.std.proofs.lemmas.Bool.{and_from, and_parts, false≢true, or_cases, or_left, or_right}
use Rattle.std.specs.List.{Contains, list_all, list_any}
use Rattle.ax_terms.proofs.Sequences.{contains_first, contains_later}

module _ {A : Type 0} (p : A → Bool) where
  passes_at : (xs : List A) (x : A) (k : ℕ) → k < length xs → get_or xs k x ≡ x → list_all p xs ≡ true → p x ≡ true
  passes_at [] x k low is all = absurd (let e : ⊥ = omega (arith, low) in e)
  passes_at (y ∷ ys) x zero low is all = ap p (sym is) ∙ (and_parts (p y) (list_all p ys) all).0
  passes_at (y ∷ ys) x (suc k) low is all =
      passes_at ys x k (omega (arith, low)) is (and_parts (p y) (list_all p ys) all).1

  pub each_passes : (xs : List A) (x : A) → list_all p xs ≡ true → Contains xs x → p x ≡ true
  each_passes xs x all there = passes_at xs x there.0 there.1 there.2 all

  pub all_pass : (xs : List A) → ((x : A) → Contains xs x → p x ≡ true) → list_all p xs ≡ true
  all_pass [] each = refl
  all_pass (y ∷ ys) each =
      and_from (p y) (list_all p ys) (each y (contains_first y ys))
      (all_pass ys (λ x there. each x (contains_later y ys x there)))

  pub one_passes : (xs : List A) → list_any p xs ≡ true → (x : A) × Contains xs x × (p x ≡ true)
  one_passes [] any = absurd (false≢true any)
  one_passes (y ∷ ys) any =
      ⊎_elim {C = (x : A) × Contains (y ∷ ys) x × (p x ≡ true)}
      (λ (here : p y ≡ true). (y, contains_first y ys, here))
      (λ (later : list_any p ys ≡ true).
      let found = one_passes ys later in (found.0, contains_later y ys found.0 found.1, found.2))
      (or_cases (p y) (list_any p ys) any)

  some_at : (xs : List A) (x : A) (k : ℕ) → k < length xs → get_or xs k x ≡ x → p x ≡ true → list_any p xs ≡ true
  some_at [] x k low is pass = absurd (let e : ⊥ = omega (arith, low) in e)
  some_at (y ∷ ys) x zero low is pass = or_left (p y) (list_any p ys) (ap p is ∙ pass)
  some_at (y ∷ ys) x (suc k) low is pass =
      or_right (p y) (list_any p ys) (some_at ys x k (omega (arith, low)) is pass)

  pub some_pass : (xs : List A) (x : A) → Contains xs x → p x ≡ true → list_any p xs ≡ true
  some_pass xs x there pass = some_at xs x there.0 there.1 there.2 pass
