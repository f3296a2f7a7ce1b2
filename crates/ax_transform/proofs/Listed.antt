-- A document of a list in the order of numbers is found under its number.
use Rattle.std.proofs.Common.{◌≡◌, inl, inr, ℕ, List, [], ◌∷◌, Bool, true, false, T, cond, Some, refl, sym, ap, ◌∙◌}
use Rattle.std.specs.Prelude.{◌≢◌, ◌&&◌}
use Rattle.std.specs.FinMap as finite
use Rattle.std.specs.FinMap.{is_sorted}
use Rattle.std.specs.FinMap.Entries.{below_all}
use Rattle.std.specs.Ordering.{nat_cmp, is_eq, is_lt}
use Rattle.std.specs.declared.cmp.Ordering.{Ordering}
use Rattle.std.specs.declared.cmp.Ordering.TheVariants.{Less, Equal, Greater}
use Rattle.ax_area.specs.Contents.{Stored}
use Rattle.ax_pages.proofs.LastPart.{other_number, same_number}
use Rattle.ax_transform.proofs.Lists.{In}

split : (a b : Bool) → T (a && b) → T a × T b
split true b is = (tt, is)
split false b is = absurd is

less : (o : Ordering) → T (is_lt o) → o ≡ Less
less Less is = refl
less Equal is = absurd is
less Greater is = absurd is

above : (bound : ℕ) (documents : List (ℕ × Stored)) (d : ℕ × Stored) → T (below_all nat_cmp bound documents) → In d documents
    → nat_cmp bound d.0 ≡ Less
above bound [] d below there = absurd there
above bound (first ∷ documents) d below (inl same) =
    ap (λ (x : ℕ × Stored). nat_cmp bound x.0) same
    ∙ less (nat_cmp bound first.0) (split (is_lt (nat_cmp bound first.0)) (below_all nat_cmp bound documents) below).0
above bound (first ∷ documents) d below (inr later) =
    above bound documents d (split (is_lt (nat_cmp bound first.0)) (below_all nat_cmp bound documents) below).1 later

never_less : (n : ℕ) → nat_cmp n n ≡ Less → ⊥
never_less n is =
    let equal : is_eq (nat_cmp n n) ≡ true = same_number n in
    let e : true ≡ false = sym equal ∙ ap is_eq is in
    absurd cc

pub found_in : (documents : List (ℕ × Stored)) (d : ℕ × Stored) → T (is_sorted nat_cmp documents) → In d documents
    → finite.find nat_cmp d.0 documents ≡ Some d.1
found_in [] d sorted there = absurd there
found_in (first ∷ documents) d sorted (inl same) =
    ap (λ (x : ℕ × Stored). finite.find nat_cmp x.0 (first ∷ documents)) same
    ∙ ap (λ b. cond b (Some first.1) (finite.find nat_cmp first.0 documents)) (same_number first.0)
    ∙ ap (λ (x : ℕ × Stored). Some x.1) (sym same)
found_in (first ∷ documents) d sorted (inr later) =
    let parts = split (below_all nat_cmp first.0 documents) (is_sorted nat_cmp documents) sorted in
    let order : nat_cmp first.0 d.0 ≡ Less = above first.0 documents d parts.0 later in
    let apart : d.0 ≢ first.0 = λ same. never_less first.0 (sym (ap (nat_cmp first.0) same) ∙ order) in
    ap (λ b. cond b (Some first.1) (finite.find nat_cmp d.0 documents)) (other_number d.0 first.0 apart)
    ∙ found_in documents d parts.1 later
