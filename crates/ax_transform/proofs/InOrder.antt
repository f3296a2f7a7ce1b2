-- Changes that were sorted and of which repeats were dropped are the same changes, and rise by their pairs where no pair is
-- both added and dropped.
use Rattle.std.proofs.Common.{◌≡◌, List, [], ◌∷◌, Bool, true, false, refl, sym, ap, ◌∙◌, subst}
use Rattle.std.specs.Cmp.{IsTotalOrder, bool_cmp_total}
use Rattle.std.specs.List.{Contains, dedup}
use Rattle.std.specs.List.Sorted.{IsPermutation, IsSorted, IsStrictlySortedBy}
use Rattle.std.specs.Ordering.{bool_cmp, eq_by_cmp, is_eq, ordering_then}
use Rattle.std.specs.Prelude.{◌↔◌}
use Rattle.std.specs.declared.cmp.Ordering.{Ordering}
use Rattle.std.specs.declared.cmp.Ordering.TheVariants.{Less, Equal, Greater}
use Rattle.std.proofs.lemmas.Cmp.{eq_by_cmp_equiv, on_total, then_total, tied_itself}
use Rattle.std.proofs.lemmas.List.Kept.{Contains-dedup, Contains-from_dedup, IsStrictlySortedBy-dedup}
use Rattle.std.proofs.lemmas.List.Sorted.{Contains-permutation, IsPermutation-sym}
use Rattle.ax_pair.proofs.PairOrder.{pair_cmp_total}
use Rattle.ax_pair.specs.Order.{Rise, RiseAfter, pair_cmp}
use Rattle.ax_delta.proofs.SamePair.{equal_same}
use Rattle.ax_delta.specs.Changes.{changed_pairs}
use Rattle.ax_delta.specs.declared.change.Change.{Change}
use Rattle.ax_terms.proofs.Sequences.{contains_first, contains_later}
use Rattle.ax_transform.specs.Gathering.{AreNetted, change_cmp}

pub change_cmp_total : IsTotalOrder change_cmp
change_cmp_total = then_total (on_total (λ (c : Change). c.pair) pair_cmp_total) (on_total (λ (c : Change). c.add) bool_cmp_total)

abbrev pub alike : Change → Change → Bool
alike = eq_by_cmp change_cmp

-- ---- the same changes

both_equal : (o r : Ordering) → is_eq (ordering_then o r) ≡ true → (o ≡ Equal) × (r ≡ Equal)
both_equal Less r h = absurd cc
both_equal Equal Less h = absurd cc
both_equal Equal Equal h = (refl, refl)
both_equal Equal Greater h = absurd cc
both_equal Greater r h = absurd cc

one_truth : (a b : Bool) → bool_cmp a b ≡ Equal → a ≡ b
one_truth true true e = refl
one_truth true false e = absurd cc
one_truth false true e = absurd cc
one_truth false false e = refl

same_ones : (x y : Change) → alike x y ≡ true → x ≡ y
same_ones x y h =
    let both = both_equal (pair_cmp x.pair y.pair) (bool_cmp x.add y.add) h in
    let pair : x.pair ≡ y.pair = equal_same x.pair y.pair both.0 in
    let add : x.add ≡ y.add = one_truth x.add y.add both.1 in
    λ i. record { add = add i; pair = pair i }

pub same_changes : (old sorted new : List Change) → IsPermutation old sorted → new ≡ dedup alike sorted
    → (one : Change) → Contains new one ↔ Contains old one
same_changes old sorted new p d one = (
  (λ h.
      Contains-permutation sorted old one (IsPermutation-sym old sorted p)
      (Contains-from_dedup alike sorted one (subst (λ (xs : List Change). Contains xs one) d h))),
  (λ h.
      subst (λ (xs : List Change). Contains xs one) (sym d)
      (Contains-dedup (eq_by_cmp_equiv change_cmp_total) same_ones sorted one (Contains-permutation old sorted one p h))),
)

-- ---- they rise

-- what comes before and is not of the same pair is of a lower one
of_lower : (one other : Change) → change_cmp one other ≡ Less → (one.pair ≡ other.pair → one.add ≡ other.add)
    → pair_cmp one.pair other.pair ≡ Less
of_lower one other less alone = by_order (pair_cmp one.pair other.pair) refl less
  where
    by_order : (o : Ordering) → pair_cmp one.pair other.pair ≡ o → ordering_then o (bool_cmp one.add other.add) ≡ Less
        → pair_cmp one.pair other.pair ≡ Less
    by_order Less e h = e
    by_order Equal e h =
        let same : one.add ≡ other.add = alone (equal_same one.pair other.pair e) in
        let tie : bool_cmp one.add other.add ≡ Equal = ap (bool_cmp one.add) (sym same) ∙ tied_itself bool_cmp_total one.add in
        absurd cc
    by_order Greater e h = absurd cc

rises_after : (one : Change) (changes : List Change) → IsStrictlySortedBy change_cmp (one ∷ changes) → AreNetted (one ∷ changes)
    → RiseAfter one.pair (changed_pairs changes)
unfolding IsStrictlySortedBy
rises_after one [] sorted netted = tt
rises_after one (next ∷ changes) sorted netted = (
  of_lower one next sorted.0.0
      (netted one next (contains_first one (next ∷ changes)) (contains_later one (next ∷ changes) next (contains_first next changes))),
  rises_after next changes sorted.1
      (λ a b in_a in_b. netted a b (contains_later one (next ∷ changes) a in_a) (contains_later one (next ∷ changes) b in_b)),
)

all_rise : (changes : List Change) → IsStrictlySortedBy change_cmp changes → AreNetted changes → Rise (changed_pairs changes)
all_rise [] sorted netted = tt
all_rise (one ∷ changes) sorted netted = rises_after one changes sorted netted

pub rises : (old sorted new : List Change) → IsPermutation old sorted → IsSorted change_cmp sorted → new ≡ dedup alike sorted
    → AreNetted old → Rise (changed_pairs new)
rises old sorted new p s d netted =
    let of_old = λ (one : Change). (same_changes old sorted new p d one).0 in
    all_rise new
    (subst (IsStrictlySortedBy change_cmp) (sym d) (IsStrictlySortedBy-dedup change_cmp_total (λ a b. refl) sorted s))
    (λ one other in_one in_other. netted one other (of_old one in_one) (of_old other in_other))
