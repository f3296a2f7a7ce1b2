-- How many documents are under a policy after one was put, or is gone.
use Rattle.std.proofs.Common.{◌≡◌, ℕ, ◌+◌, Bool, true, false, cond, T, List, [], ◌∷◌, Option, Some, None, refl, sym, ap, subst, ◌∙◌}
use Rattle.std.proofs.Common.{arith, ⊎_elim}
use Rattle.std.specs.Prelude.{count_by, ◌&&◌}
use Rattle.std.proofs.lemmas.Bool.{cases_eq}
use Rattle.std.proofs.lemmas.List.Sums.{sum_by-cons}
use Rattle.std.specs.Ordering.{nat_cmp, is_eq, is_lt}
use Rattle.std.specs.Cmp.{nat_cmp_total}
use Rattle.std.specs.declared.cmp.Ordering.{Ordering}
use Rattle.std.specs.declared.cmp.Ordering.TheVariants.{Less, Equal, Greater}
use Rattle.std.specs.FinMap as finite
use Rattle.std.specs.FinMap.{put, is_sorted}
use Rattle.std.specs.FinMap.Entries.{by_order, below_all}
use Rattle.ax_area.specs.Contents.{Stored}
use Rattle.ax_pages.proofs.LastPart.{get_inserted, get_not_inserted, get_not_removed, get_removed}

abbrev pub Documents : Type 0
Documents = finite.FinMap nat_cmp Stored

both : (a b : Bool) → T (a && b) → T a × T b
both true b h = (tt, h)
both false b h = absurd h

less : (o : Ordering) → T (is_lt o) → o ≡ Less
less Less p = refl
less Equal p = absurd p
less Greater p = absurd p

-- where two maps answer alike
pub put_back : (m : Documents) (k : ℕ) (old : Stored) → finite.get m k ≡ Some old → finite.insert (finite.remove m k) k old ≡ m
put_back m k old held =
    finite.same_map nat_cmp_total finite.nat_cmp-IsAntisymmetric (finite.insert (finite.remove m k) k old) m
    (λ n. ⊎_elim
    (λ (same : n ≡ k). ap (finite.get (finite.insert (finite.remove m k) k old)) same ∙ get_inserted (finite.remove m k) k old ∙ sym held
    ∙ sym (ap (finite.get m) same))
    (λ (apart : n ≡ k → ⊥). get_not_inserted (finite.remove m k) k n old apart ∙ get_not_removed m k n apart)
    (cases_eq n k))

module _ (P : Stored → Bool) where
  abbrev pub count : List (ℕ × Stored) → ℕ
  count documents = count_by (λ (document : ℕ × Stored). P document.1) documents

  abbrev pub bit : Stored → ℕ
  bit document = cond (P document) 1 0

  abbrev pub was : Option Stored → ℕ
  was None = 0
  was (Some document) = cond (P document) 1 0

  count_cons : (document : ℕ × Stored) (documents : List (ℕ × Stored)) → count (document ∷ documents) ≡ cond (P document.1) 1 0 + count documents
  count_cons document documents = sum_by-cons (λ (x : ℕ × Stored). cond (P x.1) 1 0) document documents

  -- a number below all is not found
  none_below : (k bound : ℕ) (documents : List (ℕ × Stored)) → nat_cmp k bound ≡ Less → T (below_all nat_cmp bound documents)
      → finite.find nat_cmp k documents ≡ None
  none_below k bound [] lt below = refl
  none_below k bound (document ∷ documents) lt below =
      let parts = both (is_lt (nat_cmp bound document.0)) (below_all nat_cmp bound documents) below in
      let order : nat_cmp k document.0 ≡ Less = nat_cmp_total.trans k bound document.0 lt (less (nat_cmp bound document.0) parts.0) in
      ap (λ o. cond (is_eq o) (Some document.1) (finite.find nat_cmp k documents)) order ∙ none_below k bound documents lt parts.1

  count_put : (k : ℕ) (new : Stored) (documents : List (ℕ × Stored)) (old : Option Stored) → T (is_sorted nat_cmp documents)
      → finite.find nat_cmp k documents ≡ old
      → count (put nat_cmp k new documents) + was old ≡ count documents + cond (P new) 1 0
  count_put k new [] old sorted is =
      let none : was old ≡ 0 = ap was (sym is) in
      let alone : count ((k, new) ∷ []) ≡ cond (P new) 1 0 + count [] = count_cons (k, new) [] in
      omega arith
  count_put k new (document ∷ documents) old sorted is =
      let parts = both (below_all nat_cmp document.0 documents) (is_sorted nat_cmp documents) sorted in
      let split : count (document ∷ documents) ≡ cond (P document.1) 1 0 + count documents = count_cons document documents in
      elim (nat_cmp k document.0) as
      (λ o. nat_cmp k document.0 ≡ o → cond (is_eq o) (Some document.1) (finite.find nat_cmp k documents) ≡ old
      → count (by_order o ((k, new) ∷ document ∷ documents) ((document.0, new) ∷ documents) (document ∷ put nat_cmp k new documents)) + was old
      ≡ count (document ∷ documents) + cond (P new) 1 0) [
        | Less ↦ λ o at.
            let none : was old ≡ 0 = ap was (sym at ∙ none_below k document.0 documents o parts.0) in
            let more : count ((k, new) ∷ document ∷ documents) ≡ cond (P new) 1 0 + count (document ∷ documents) =
            count_cons (k, new) (document ∷ documents) in
            omega arith
        | Equal ↦ λ o at.
            let here : was old ≡ cond (P document.1) 1 0 = ap was (sym at) in
            let other : count ((document.0, new) ∷ documents) ≡ cond (P new) 1 0 + count documents = count_cons (document.0, new) documents in
            omega arith
        | Greater ↦ λ o at.
            let rest : count (put nat_cmp k new documents) + was old ≡ count documents + cond (P new) 1 0 =
            count_put k new documents old parts.1 at in
            let kept : count (document ∷ put nat_cmp k new documents) ≡ cond (P document.1) 1 0 + count (put nat_cmp k new documents) =
            count_cons document (put nat_cmp k new documents) in
            omega arith
      ] refl is

  -- a document is put in the place of what was there
  pub count_insert : (m : Documents) (k : ℕ) (new : Stored) (old : Option Stored) → finite.get m k ≡ old
      → count (finite.entries (finite.insert m k new)) + was old ≡ count (finite.entries m) + cond (P new) 1 0
  count_insert m k new old is =
      subst (λ documents. count documents + was old ≡ count (finite.entries m) + cond (P new) 1 0)
      (sym (finite.entries-insert nat_cmp_total m k new))
      (count_put k new (finite.entries m) old (finite.entries_sorted m) (sym (finite.get-entries m k) ∙ is))

  -- a document that was there is gone
  pub count_remove : (m : Documents) (k : ℕ) (old : Stored) → finite.get m k ≡ Some old
      → count (finite.entries (finite.remove m k)) + cond (P old) 1 0 ≡ count (finite.entries m)
  count_remove m k old held =
      let back : count (finite.entries (finite.insert (finite.remove m k) k old)) + 0 ≡ count (finite.entries (finite.remove m k)) + cond (P old) 1 0 =
      count_insert (finite.remove m k) k old None (get_removed m k) in
      let same : count (finite.entries (finite.insert (finite.remove m k) k old)) ≡ count (finite.entries m) =
      ap (λ d. count (finite.entries d)) (put_back m k old held) in
      omega arith
