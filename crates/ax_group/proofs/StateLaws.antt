-- A tally with one value more at its place among the others.
use Rattle.std.proofs.Common.{◌≡◌, ℕ, zero, suc, ◌+◌, ◌<◌, ◌≤◌, List, [], ◌∷◌, ◌++◌, length, take, drop, get_or, set, refl, ap, sym, ◌∙◌, take-append-drop, drop_of_length-le, arith}
use Rattle.ax_mean.specs.declared.value.Value.{Value}
use Rattle.ax_group.specs.declared.tally.Tally.{Tally}
use Rattle.ax_group.specs.Tallies.{tally_with}
use Rattle.ax_group.specs.States.{tallies_with, with_one}

pub with_one_long : (n : ℕ) (v : Value) (ts : List Tally) → length (with_one n v ts) ≡ length ts
with_one_long n v [] = refl
with_one_long zero v (t ∷ ts) = refl
with_one_long (suc n) v (t ∷ ts) = ap suc (with_one_long n v ts)

-- the values that are left go on behind one that was given its value
one_goes_on : (n : ℕ) (v : Value) (vs : List Value) (ts : List Tally) → n < length ts
    → take (suc n) (with_one n v ts) ++ tallies_with (drop (suc n) (with_one n v ts)) vs
    ≡ take n ts ++ tallies_with (drop n ts) (v ∷ vs)
one_goes_on n v vs [] h = absurd (let e : ⊥ = omega arith in e)
one_goes_on zero v vs (t ∷ ts) h = refl
one_goes_on (suc n) v vs (t ∷ ts) h =
    ap (λ us. t ∷ us) (one_goes_on n v vs ts (let e : n < length ts = omega arith in e))

pub goes_on : (n m : ℕ) (v : Value) (vs : List Value) (ts : List Tally) → n < length ts
    → m ≡ n + 1 → take m (with_one n v ts) ++ tallies_with (drop m (with_one n v ts)) vs
    ≡ take n ts ++ tallies_with (drop n ts) (v ∷ vs)
goes_on n m v vs ts h e =
    ap (λ k. take k (with_one n v ts) ++ tallies_with (drop k (with_one n v ts)) vs)
    (let k : m ≡ suc n = omega arith in k)
    ∙ one_goes_on n v vs ts h

-- what is written at a place
pub set_is : (n : ℕ) (v : Value) (ts : List Tally) (t : Tally) → n < length ts → t ≡ get_or ts n t
    → set ts n (tally_with t v) ≡ with_one n v ts
set_is n v [] t h e = absurd (let e : ⊥ = omega arith in e)
set_is zero v (u ∷ ts) t h e = ap (λ x. tally_with x v ∷ ts) e
set_is (suc n) v (u ∷ ts) t h e =
    ap (λ us. u ∷ us) (set_is n v ts t (let e : n < length ts = omega arith in e) e)

no_values : (ts : List Tally) → tallies_with ts [] ≡ ts
no_values [] = refl
no_values (t ∷ ts) = refl

pub at_end : (n : ℕ) (ts : List Tally) → take n ts ++ tallies_with (drop n ts) [] ≡ ts
at_end n ts = ap (λ us. take n ts ++ us) (no_values (drop n ts)) ∙ take-append-drop n ts

-- behind the last tally a value adds nothing
pub left_over : (n : ℕ) (v : Value) (vs : List Value) (ts : List Tally) → length ts ≤ n
    → take n ts ++ tallies_with (drop n ts) vs ≡ take n ts ++ tallies_with (drop n ts) (v ∷ vs)
left_over n v vs ts h =
    ap (λ us. take n ts ++ tallies_with us vs) (drop_of_length-le ts h)
    ∙ sym (ap (λ us. take n ts ++ tallies_with us (v ∷ vs)) (drop_of_length-le ts h))

pub at_exit : (n : ℕ) (ts : List Tally) (vs : List Value) (whole : List Tally) → vs ≡ []
    → take n ts ++ tallies_with (drop n ts) vs ≡ whole → ts ≡ whole
at_exit n ts vs whole e h =
    sym (at_end n ts) ∙ ap (λ us. take n ts ++ tallies_with (drop n ts) us) (sym e) ∙ h
