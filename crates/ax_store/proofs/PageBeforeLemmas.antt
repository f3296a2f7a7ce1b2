-- The page before another in the order of term pages.
use Rattle.std.proofs.Common.{◌≡◌, ℕ, ◌-◌, ◌+◌, ◌<◌, ◌≤◌, List, length, get_or, refl, sym, ap, subst, ◌∙◌, arith, ◌⊎◌, inl, inr, Less, Equal}
use Rattle.std.proofs.lemmas.Bool.{cases_lt}
use Rattle.ax_pair.specs.declared.pair.Pair.{Pair}
use Rattle.ax_pair.specs.Order.{pair_cmp}
use Rattle.ax_pair.proofs.PairOrder.{pair_cmp_total, the_pair}
use Rattle.ax_pages.specs.Contents.{TermPage}
use Rattle.ax_pages.specs.TermPages.{low_pair}
use Rattle.ax_store.specs.PageBefore.{IsFirstPage, IsPageBefore}
use Rattle.ax_store.specs.TermRows.{IsCountUpTo, IsOrderOf}
use Rattle.ax_store.proofs.TermOrder.{equal_not_greater, equal_not_less, flipped, itself, of_parts}

module _ (order : List ℕ) (pages : List TermPage) (is : IsOrderOf order pages) (page count : ℕ) (there : page < length pages)
    (at : IsCountUpTo (low_pair page pages) count order pages) where
  abbrev low_at : ℕ → Pair
  low_at i = low_pair (get_or order i 0) pages

  -- the page itself stands last of those that are not after it
  its_place : (i : ℕ) → i < length order → get_or order i 0 ≡ page → i + 1 ≡ count
  its_place i lt is_page = by_count (cases_lt i count)
    where
      same : pair_cmp (low_at i) (low_pair page pages) ≡ Equal
      same = itself (low_at i) (low_pair page pages) (ap (λ (p : ℕ). low_pair p pages) is_page)

      by_last : i < count → (i < count - 1) ⊎ (count - 1 ≤ i) → i + 1 ≡ count
      by_last below (inl before) =
          absurd (at.up_to (count - 1) (omega (arith, before))
          (flipped (low_pair page pages) (low_at (count - 1))
          (ap (λ (p : ℕ). pair_cmp (low_pair p pages) (low_at (count - 1))) (sym is_page)
          ∙ is.rising i (count - 1) before (omega (arith, before, at.within)))))
      by_last below (inr behind) = omega (arith, below, behind)

      by_count : (i < count) ⊎ (count ≤ i) → i + 1 ≡ count
      by_count (inl below) = by_last below (cases_lt i (count - 1))
      by_count (inr behind) = absurd (equal_not_greater (pair_cmp (low_at i) (low_pair page pages)) same (at.behind i behind lt))

  -- a page with a lower low pair stands before it
  lower_before : (other k : ℕ) → k < length order → get_or order k 0 ≡ other → pair_cmp (low_pair other pages) (low_pair page pages) ≡ Less → k + 1 < count
  lower_before other k lt is_other less = by_place (is.all page there)
    where
      by_place : (i : ℕ) × (i < length order) × (get_or order i 0 ≡ page) → k + 1 < count
      by_place (i, in_range, is_page) = by_order (cases_lt k i)
        where
          place : i + 1 ≡ count
          place = its_place i in_range is_page

          by_same : (i < k) ⊎ (k ≤ i) → i ≤ k → k + 1 < count
          by_same (inl beyond) up =
              absurd (not_less_both (pair_cmp_total.trans (low_pair other pages) (low_pair page pages) (low_pair other pages) less
              (ap (λ (p : ℕ). pair_cmp (low_pair p pages) (low_pair other pages)) (sym is_page)
              ∙ ap (λ (p : ℕ). pair_cmp (low_at i) (low_pair p pages)) (sym is_other) ∙ is.rising i k beyond lt)))
            where
              not_less_both : pair_cmp (low_pair other pages) (low_pair other pages) ≡ Less → ⊥
              not_less_both e =
                  equal_not_less (pair_cmp (low_pair other pages) (low_pair other pages))
                  (itself (low_pair other pages) (low_pair other pages) refl) e
          by_same (inr within) up =
              let here : k ≡ i = omega (arith, within, up) in
              absurd (equal_not_less (pair_cmp (low_pair other pages) (low_pair page pages))
              (itself (low_pair other pages) (low_pair page pages)
              (ap (λ (p : ℕ). low_pair p pages) (sym is_other ∙ ap (λ (j : ℕ). get_or order j 0) here ∙ is_page))) less)

          by_order : (k < i) ⊎ (i ≤ k) → k + 1 < count
          by_order (inl before) = omega (arith, before, place)
          by_order (inr up) = by_same (cases_lt i k) up

  pub none_before : count < 2 → IsFirstPage page pages
  none_before few other h less = by_place (is.all other h)
    where
      by_place : (k : ℕ) × (k < length order) × (get_or order k 0 ≡ other) → ⊥
      by_place (k, lt, is_other) = absurd (omega (arith, few, lower_before other k lt is_other less))

  pub found_before : 2 ≤ count → IsPageBefore (get_or order (count - 2) 0) page pages
  found_before many = record {
    there = is.there (count - 2) (omega (arith, many, at.within));
    next = record {
      there = there;
      after = by_place (is.all page there);
      least = λ other h later before. none_between other (is.all other h) later before;
    };
  }
    where
      by_place : (i : ℕ) × (i < length order) × (get_or order i 0 ≡ page) → pair_cmp (low_at (count - 2)) (low_pair page pages) ≡ Less
      by_place (i, lt, is_page) =
          let place : i + 1 ≡ count = its_place i lt is_page in
          ap (λ (p : ℕ). pair_cmp (low_at (count - 2)) (low_pair p pages)) (sym is_page)
          ∙ is.rising (count - 2) i (omega (arith, place, many)) lt

      none_between : (other : ℕ) → (k : ℕ) × (k < length order) × (get_or order k 0 ≡ other) → pair_cmp (low_at (count - 2)) (low_pair other pages) ≡ Less
          → pair_cmp (low_pair other pages) (low_pair page pages) ≡ Less → ⊥
      none_between other (k, lt, is_other) later before = by_order (cases_lt k (count - 2))
        where
          place : k + 1 < count
          place = lower_before other k lt is_other before

          by_order : (k < count - 2) ⊎ (count - 2 ≤ k) → ⊥
          by_order (inl lower) =
              equal_not_less (pair_cmp (low_at (count - 2)) (low_at (count - 2))) (itself (low_at (count - 2)) (low_at (count - 2)) refl)
              (pair_cmp_total.trans (low_at (count - 2)) (low_pair other pages) (low_at (count - 2)) later
              (ap (λ (p : ℕ). pair_cmp (low_pair p pages) (low_at (count - 2))) (sym is_other)
              ∙ is.rising k (count - 2) lower (omega (arith, at.within, many))))
          by_order (inr up) =
              let here : count - 2 ≡ k = omega (arith, up, place) in
              equal_not_less (pair_cmp (low_at (count - 2)) (low_pair other pages))
              (itself (low_at (count - 2)) (low_pair other pages) (ap (λ (p : ℕ). low_pair p pages) (ap (λ (j : ℕ). get_or order j 0) here ∙ is_other)))
              later

-- the same of what a search for a page's own low pair finds
module _ (order : List ℕ) (pages : List TermPage) (is : IsOrderOf order pages) (page count number : ℕ) (term : List ℕ) (there : page < length pages)
    (first : term ≡ (low_pair page pages).term) (second : number ≡ (low_pair page pages).number)
    (at : IsCountUpTo (the_pair term number) count order pages) where
  own : IsCountUpTo (low_pair page pages) count order pages
  own = subst (λ (p : Pair). IsCountUpTo p count order pages) (of_parts (the_pair term number) (low_pair page pages) first second) at

  pub first_at : count < 2 → IsFirstPage page pages
  first_at few = none_before order pages is page count there own few

  pub before_at : 2 ≤ count → IsPageBefore (get_or order (count - 2) 0) page pages
  before_at many = found_before order pages is page count there own many
