-- Terms that were sorted and of which repeats were dropped rise, and are the same terms.
use Rattle.std.proofs.Common.{◌≡◌, ℕ, List, [], ◌∷◌, Bool, true, ◌&&◌, refl, sym, ap, ap₂, ◌∙◌, subst, nat_eq}
use Rattle.std.specs.Cmp.Lexicographic.{slice_cmp, pointwise}
use Rattle.std.specs.List.{Contains, dedup}
use Rattle.std.specs.List.Sorted.{IsStrictlySortedBy, IsPermutation, IsSorted}
use Rattle.std.specs.Ordering.{nat_cmp, eq_by_cmp, is_lt}
use Rattle.std.specs.Prelude.{◌↔◌}
use Rattle.std.proofs.lemmas.Cmp.{nat_list_cmp_total, nat_list_eq_equiv}
use Rattle.std.proofs.lemmas.List.Kept.{Contains-dedup, Contains-from_dedup, IsStrictlySortedBy-dedup}
use Rattle.std.proofs.lemmas.List.Sorted.{Contains-permutation, IsPermutation-sym}
use Rattle.std.proofs.lemmas.Map.Text.{is_eq-slice_cmp}
use Rattle.std.proofs.lemmas.Slice.Eq.{bytes_eq-Decides}
use Rattle.ax_tree.specs.Rising.{is_rising}

abbrev pub alike : List ℕ → List ℕ → Bool
alike = pointwise nat_eq

tied : (x y : List ℕ) → alike x y ≡ eq_by_cmp (slice_cmp nat_cmp) x y
tied x y = sym (is_eq-slice_cmp x y)

neighbours : (xs : List (List ℕ)) → IsStrictlySortedBy (slice_cmp nat_cmp) xs → is_rising xs ≡ true
unfolding IsStrictlySortedBy
neighbours [] s = refl
neighbours (x ∷ []) s = refl
neighbours (x ∷ y ∷ ys) s = ap₂ (λ a b. a && b) (ap is_lt s.0.0) (neighbours (y ∷ ys) s.1)

pub rises : (sorted new : List (List ℕ)) → IsSorted (slice_cmp nat_cmp) sorted
    → new ≡ dedup alike sorted → is_rising new ≡ true
rises sorted new s d =
    ap is_rising d ∙ neighbours (dedup alike sorted) (IsStrictlySortedBy-dedup nat_list_cmp_total tied sorted s)

same_ones : (x y : List ℕ) → alike x y ≡ true → x ≡ y
same_ones x y = (bytes_eq-Decides x y).0

pub same_terms : (old sorted new : List (List ℕ)) → IsPermutation old sorted → new ≡ dedup alike sorted
    → (bytes : List ℕ) → Contains new bytes ↔ Contains old bytes
same_terms old sorted new p d bytes = (
  (λ h.
      Contains-permutation sorted old bytes (IsPermutation-sym old sorted p)
      (Contains-from_dedup alike sorted bytes (subst (λ xs. Contains xs bytes) d h))),
  (λ h.
      subst (λ xs. Contains xs bytes) (sym d)
      (Contains-dedup nat_list_eq_equiv same_ones sorted bytes
      (Contains-permutation old sorted bytes p h))),
)
