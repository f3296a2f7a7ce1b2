-- The order of term pages by their low pairs: what a search in it finds, and how it stays one.
use Rattle.std.proofs.Common.{◌≡◌, ℕ, ◌+◌, ◌-◌, ◌<◌, ◌≤◌, List, [], ◌∷◌, ◌++◌, length, get_or, true, false, Some, None, Ordering, Less, Equal}
use Rattle.std.proofs.Common.{Greater, refl, sym, ap, subst, ◌∙◌, arith, ◌⊎◌, inl, inr, Option, Bor, is_some, nat_lt}
use Rattle.std.specs.Option.{option_copied}
use Rattle.std.specs.Prelude.{slice_get, IfSome, IfNone}
use Rattle.std.specs.List.{insert}
use Rattle.std.specs.List.Sorted.{IsPartitionedBy, IsPartitionPoint}
use Rattle.std.specs.Cmp.{nat_cmp_is}
use Rattle.std.specs.Cmp.Lexicographic.{slice_cmp}
use Rattle.std.specs.FinMap.{slice_cmp-IsAntisymmetric, nat_cmp-IsAntisymmetric}
use Rattle.std.specs.Ordering.{nat_cmp, is_le, ordering_then, ordering_reverse}
use Rattle.std.proofs.lemmas.Bool.{cases_lt, cases_order, ltb-true, ltb-false}
use Rattle.std.proofs.lemmas.Cmp.{tied_itself}
use Rattle.std.proofs.lemmas.Grind.{get_or_default_zero}
use Rattle.std.proofs.lemmas.List.{get_or_append_left, length-append}
use Rattle.std.proofs.lemmas.List.Edits.{get_or-insert_at, get_or-insert_below, get_or-insert_above, length-insert}
use Rattle.std.proofs.lemmas.Option.{slice_get-get_or, slice_get_past, slice_get_within, get_or_from_slice_get}
use Rattle.std.proofs.Math.Seq.{get_or-append_seam}
use Rattle.ax_pair.specs.declared.pair.Pair.{Pair}
use Rattle.ax_pair.specs.Low.{first_pair}
use Rattle.ax_pair.specs.Order.{pair_cmp}
use Rattle.ax_pair.proofs.PairOrder.{pair_cmp_total}
use Rattle.ax_pair.proofs.PairOrder.{the_pair}
use Rattle.ax_pages.specs.AfterPart.{most_term_pages}
use Rattle.ax_pages.specs.Contents.{TermPage, no_term_page, low_of}
use Rattle.ax_pages.specs.TermPages.{IsPageOf, IsNextPage, IsLastPage, low_pair}
use Rattle.ax_store.specs.TermRows.{IsOrderOf, IsCountUpTo}

-- ---- pairs

both_equal : (a b : Ordering) → ordering_then a b ≡ Equal → (a ≡ Equal) × (b ≡ Equal)
both_equal Less b e = absurd (cc)
both_equal Equal b e = (refl, e)
both_equal Greater b e = absurd (cc)

pub of_parts : (p q : Pair) → p.term ≡ q.term → p.number ≡ q.number → p ≡ q
of_parts p q term number = ap (λ (t : List ℕ). the_pair t p.number) term ∙ ap (λ (n : ℕ). the_pair q.term n) number

pub same_pair : (p q : Pair) → pair_cmp p q ≡ Equal → p ≡ q
same_pair p q e =
    let both : (slice_cmp nat_cmp p.term q.term ≡ Equal) × (nat_cmp p.number q.number ≡ Equal) =
    both_equal (slice_cmp nat_cmp p.term q.term) (nat_cmp p.number q.number) e
    in
    of_parts p q (slice_cmp-IsAntisymmetric nat_cmp-IsAntisymmetric p.term q.term both.0) (nat_cmp-IsAntisymmetric p.number q.number both.1)

pub flipped : (p q : Pair) → pair_cmp p q ≡ Less → pair_cmp q p ≡ Greater
flipped p q less = pair_cmp_total.antisymm q p ∙ ap ordering_reverse less

pub flipped_back : (p q : Pair) → pair_cmp p q ≡ Greater → pair_cmp q p ≡ Less
flipped_back p q greater = pair_cmp_total.antisymm q p ∙ ap ordering_reverse greater

pub itself : (p q : Pair) → p ≡ q → pair_cmp p q ≡ Equal
itself p q same = ap (pair_cmp p) (sym same) ∙ tied_itself pair_cmp_total p

pub not_both : (o : Ordering) → o ≡ Less → o ≡ Greater → ⊥
not_both o less greater = cc

pub equal_not_greater : (o : Ordering) → o ≡ Equal → o ≡ Greater → ⊥
equal_not_greater o equal greater = cc

pub equal_not_less : (o : Ordering) → o ≡ Equal → o ≡ Less → ⊥
equal_not_less o equal less = cc

le_not_greater : (o : Ordering) → is_le o ≡ true → o ≡ Greater → ⊥
le_not_greater Less le e = cc
le_not_greater Equal le e = cc
le_not_greater Greater le e = cc

not_le_greater : (o : Ordering) → is_le o ≡ false → o ≡ Greater
not_le_greater Less le = absurd (cc)
not_le_greater Equal le = absurd (cc)
not_le_greater Greater le = refl

-- what is before a pair that is not after another is not after that either
le_before : (a b pair : Pair) (o : Ordering) → pair_cmp a b ≡ Less → pair_cmp b pair ≡ o → is_le o ≡ true → is_le (pair_cmp a pair) ≡ true
le_before a b pair Less less is le = ap is_le (pair_cmp_total.trans a b pair less is)
le_before a b pair Equal less is le = ap (λ (p : Pair). is_le (pair_cmp a p)) (sym (same_pair b pair is)) ∙ ap is_le less
le_before a b pair Greater less is le = absurd (cc)

zero_not_after : (number : ℕ) → nat_cmp 0 number ≡ Greater → ⊥
zero_not_after number e = by_place (cases_lt 0 number)
  where
    by_place : (0 < number) ⊎ (number ≤ 0) → ⊥
    by_place (inl some) = not_both (nat_cmp 0 number) (sym (nat_cmp_is 0 number Less some)) e
    by_place (inr none) =
        let same : 0 ≡ number = omega (arith, none) in equal_not_greater (nat_cmp 0 number) (sym (nat_cmp_is 0 number Equal same)) e

-- the first pair of all is after none
first_not_after : (term : List ℕ) (number : ℕ) → pair_cmp first_pair (the_pair term number) ≡ Greater → ⊥
first_not_after [] number e = zero_not_after number e
first_not_after (byte ∷ term) number e = cc

-- ---- a search

parted : (order : List ℕ) (pages : List TermPage) (pair : Pair) → IsOrderOf order pages
    → IsPartitionedBy (λ page. is_le (pair_cmp (low_pair page pages) pair)) order
parted order pages pair is i j d le in_range up = by_place (cases_lt i j)
  where
    at_zero : (k : ℕ) → k < length order → get_or order k d ≡ get_or order k 0
    at_zero k h = get_or_default_zero order k d h

    by_place : (i < j) ⊎ (j ≤ i) → is_le (pair_cmp (low_pair (get_or order i d) pages) pair) ≡ true
    by_place (inl below) =
        let before : is_le (pair_cmp (low_pair (get_or order j 0) pages) pair) ≡ true =
        ap (λ (page : ℕ). is_le (pair_cmp (low_pair page pages) pair)) (sym (at_zero j in_range)) ∙ up
        in
        ap (λ (page : ℕ). is_le (pair_cmp (low_pair page pages) pair)) (at_zero i (omega (arith, below, in_range)))
        ∙ le_before (low_pair (get_or order i 0) pages) (low_pair (get_or order j 0) pages) pair
        (pair_cmp (low_pair (get_or order j 0) pages) pair) (is.rising i j below in_range) refl before
    by_place (inr behind) =
        let same : i ≡ j = omega (arith, behind, le) in
        ap (λ (k : ℕ). is_le (pair_cmp (low_pair (get_or order k d) pages) pair)) same ∙ up

pub counted : (order : List ℕ) (pages : List TermPage) (pair : Pair) (count : ℕ) → IsOrderOf order pages → count ≤ length order
    → (IsPartitionedBy (λ page. is_le (pair_cmp (low_pair page pages) pair)) order
    → IsPartitionPoint (λ page. is_le (pair_cmp (low_pair page pages) pair) ≡ true) (λ page. is_le (pair_cmp (low_pair page pages) pair) ≡ false) order count)
    → IsCountUpTo pair count order pages
counted order pages pair count is within point = record {
  within = within;
  up_to = λ i lt greater.
      le_not_greater (pair_cmp (low_pair (get_or order i 0) pages) pair) ((point (parted order pages pair is)).0 i 0 (omega arith) lt)
      greater;
  behind = λ i le lt. not_le_greater (pair_cmp (low_pair (get_or order i 0) pages) pair) ((point (parted order pages pair is)).1 i 0 le lt);
}

-- ---- what it finds

module _ (order : List ℕ) (pages : List TermPage) (is : IsOrderOf order pages) where
  -- page 0 stands among the pages that are counted
  pub some_counted : (pair : Pair) (count : ℕ) → IsCountUpTo pair count order pages → 0 < count
  some_counted pair count at = by_place (is.all 0 is.some)
    where
      by_place : (i : ℕ) × (i < length order) × (get_or order i 0 ≡ 0) → 0 < count
      by_place (i, lt, same) = by_count (cases_lt 0 count)
        where
          by_count : (0 < count) ⊎ (count ≤ 0) → 0 < count
          by_count (inl some) = some
          by_count (inr none) =
              absurd (first_not_after pair.term pair.number
              (ap (λ (p : Pair). pair_cmp p pair) (sym is.first) ∙ ap (λ (page : ℕ). pair_cmp (low_pair page pages) pair) (sym same)
              ∙ at.behind i (omega (arith, none)) lt))

  pub page_found : (pair : Pair) (count : ℕ) → IsCountUpTo pair count order pages → IsPageOf pair (get_or order (count - 1) 0) pages
  page_found pair count at =
      let some : 0 < count = some_counted pair count at in
      record {
        there = is.there (count - 1) (omega (arith, some, at.within));
        below = at.up_to (count - 1) (omega (arith, some));
        greatest = λ other h not_after. none_greater other (is.all other h) not_after;
      }
    where
      none_greater : (other : ℕ) → (i : ℕ) × (i < length order) × (get_or order i 0 ≡ other) → (pair_cmp (low_pair other pages) pair ≡ Greater → ⊥)
          → pair_cmp (low_pair other pages) (low_pair (get_or order (count - 1) 0) pages) ≡ Greater → ⊥
      none_greater other (i, lt, is_other) not_after greater = by_count (cases_lt i count)
        where
          by_last : (i < count - 1) ⊎ (count - 1 ≤ i) → i < count → ⊥
          by_last (inl before) below =
              not_both (pair_cmp (low_pair other pages) (low_pair (get_or order (count - 1) 0) pages))
              (ap (λ (page : ℕ). pair_cmp (low_pair page pages) (low_pair (get_or order (count - 1) 0) pages)) (sym is_other)
              ∙ is.rising i (count - 1) before (omega (arith, below, at.within, before)))
              greater
          by_last (inr behind) below =
              let here : i ≡ count - 1 = omega (arith, behind, below) in
              equal_not_greater (pair_cmp (low_pair other pages) (low_pair (get_or order (count - 1) 0) pages))
              (itself (low_pair other pages) (low_pair (get_or order (count - 1) 0) pages)
              (ap (λ (page : ℕ). low_pair page pages) (sym is_other ∙ ap (λ (k : ℕ). get_or order k 0) here)))
              greater

          by_count : (i < count) ⊎ (count ≤ i) → ⊥
          by_count (inl below) = by_last (cases_lt i (count - 1)) below
          by_count (inr behind) = not_after (ap (λ (page : ℕ). pair_cmp (low_pair page pages) pair) (sym is_other) ∙ at.behind i behind lt)

  -- whatever is after the low pair of a page stands at or behind the count
  later_behind : (page count other i : ℕ) → IsCountUpTo (low_pair page pages) count order pages → get_or order i 0 ≡ other
      → pair_cmp (low_pair page pages) (low_pair other pages) ≡ Less → count ≤ i
  later_behind page count other i at is_other less = by_count (cases_lt i count)
    where
      by_count : (i < count) ⊎ (count ≤ i) → count ≤ i
      by_count (inr behind) = behind
      by_count (inl below) =
          absurd (at.up_to i below
          (ap (λ (p : ℕ). pair_cmp (low_pair p pages) (low_pair page pages)) is_other ∙ flipped (low_pair page pages) (low_pair other pages) less))

  next_found : (page count : ℕ) → IsCountUpTo (low_pair page pages) count order pages → count < length order → IsNextPage page (get_or order count 0) pages
  next_found page count at lt =
      record {
        there = is.there count lt;
        after = flipped_back (low_pair (get_or order count 0) pages) (low_pair page pages) (at.behind count (omega arith) lt);
        least = λ other h later before. none_between other (is.all other h) later before;
      }
    where
      none_between : (other : ℕ) → (i : ℕ) × (i < length order) × (get_or order i 0 ≡ other) → pair_cmp (low_pair page pages) (low_pair other pages) ≡ Less
          → pair_cmp (low_pair other pages) (low_pair (get_or order count 0) pages) ≡ Less → ⊥
      none_between other (i, in_range, is_other) later before = by_place (cases_lt count i)
        where
          from_count : count ≤ i
          from_count = later_behind page count other i at is_other later

          by_place : (count < i) ⊎ (i ≤ count) → ⊥
          by_place (inl beyond) =
              not_both (pair_cmp (low_pair other pages) (low_pair (get_or order count 0) pages)) before
              (flipped (low_pair (get_or order count 0) pages) (low_pair other pages)
              (ap (λ (p : ℕ). pair_cmp (low_pair (get_or order count 0) pages) (low_pair p pages)) (sym is_other) ∙ is.rising count i beyond in_range))
          by_place (inr up_to) =
              let here : i ≡ count = omega (arith, up_to, from_count) in
              equal_not_less (pair_cmp (low_pair other pages) (low_pair (get_or order count 0) pages))
              (itself (low_pair other pages) (low_pair (get_or order count 0) pages)
              (ap (λ (p : ℕ). low_pair p pages) (sym is_other ∙ ap (λ (k : ℕ). get_or order k 0) here)))
              before

  none_next : (page count : ℕ) → IsCountUpTo (low_pair page pages) count order pages → length order ≤ count → IsLastPage page pages
  none_next page count at all other h less = by_place (is.all other h)
    where
      by_place : (i : ℕ) × (i < length order) × (get_or order i 0 ≡ other) → ⊥
      by_place (i, lt, is_other) = let behind : count ≤ i = later_behind page count other i at is_other less in absurd (omega (arith, behind, all, lt))

-- the same of what a search for a page's own low pair finds
module _ (order : List ℕ) (pages : List TermPage) (is : IsOrderOf order pages) (page count number : ℕ) (term : List ℕ)
    (first : term ≡ (low_pair page pages).term) (second : number ≡ (low_pair page pages).number)
    (at : IsCountUpTo (the_pair term number) count order pages) where
  own : IsCountUpTo (low_pair page pages) count order pages
  own = subst (λ (p : Pair). IsCountUpTo p count order pages) (of_parts (the_pair term number) (low_pair page pages) first second) at

  pub next_at : (result : Option ℕ) → result ≡ slice_get order count → IfSome result (λ next. IsNextPage page next pages)
  next_at None found = tt
  next_at (Some next) found =
      subst (λ (next : ℕ). IsNextPage page next pages) (get_or_from_slice_get order count next 0 (sym found))
      (next_found order pages is page count own (slice_get_within order count next (sym found)))

  pub last_at : (result : Option ℕ) → result ≡ slice_get order count → IfNone result (IsLastPage page pages)
  last_at None found = none_next order pages is page count own (by_place (cases_lt count (length order)))
    where
      by_place : (count < length order) ⊎ (length order ≤ count) → length order ≤ count
      by_place (inl within) = let there : slice_get order count ≡ Some (get_or order count 0) = slice_get-get_or order count 0 within in absurd (cc)
      by_place (inr behind) = behind
  last_at (Some next) found = tt

-- ---- how it stays an order

-- where as many pages have the low pairs that they had
pub order_kept : (order : List ℕ) (pages after : List TermPage) → IsOrderOf order pages → length after ≡ length pages
    → ((number : ℕ) → low_pair number after ≡ low_pair number pages) → IsOrderOf order after
order_kept order pages after is len same = record {
  some = omega (arith, len, is.some);
  few = omega (arith, len, is.few);
  first = same 0 ∙ is.first;
  count = is.count ∙ sym len;
  there = λ i lt. let h : get_or order i 0 < length pages = is.there i lt in omega (arith, h, len);
  rising = λ i j lt in_range. ap (λ (p : Pair). pair_cmp p (low_pair (get_or order j 0) after)) (same (get_or order i 0))
      ∙ ap (pair_cmp (low_pair (get_or order i 0) pages)) (same (get_or order j 0)) ∙ is.rising i j lt in_range;
  all = λ number h. is.all number (omega (arith, h, len));
}

-- one page in the order, page 0
pub first_order : IsOrderOf (0 ∷ []) (no_term_page ∷ [])
first_order = record {
  some = omega arith;
  few = omega arith;
  first = refl;
  count = refl;
  there = λ i lt. let here : i ≡ 0 = omega (arith, lt) in subst (λ (k : ℕ). get_or (0 ∷ []) k 0 < 1) (sym here) (omega arith);
  rising = λ i j lt in_range. absurd (omega (arith, lt, in_range));
  all = λ number h. (0, omega arith, omega (arith, h));
}

-- ---- a new page in it

module _ (order : List ℕ) (pages : List TermPage) (is : IsOrderOf order pages) (page : TermPage) (at : ℕ)
    (place : IsCountUpTo (low_of page) at order pages)
    (other : (number : ℕ) → number < length pages → low_pair number pages ≡ low_of page → ⊥) where
  abbrev order_after : List ℕ
  order_after = insert order at (length pages)

  abbrev pages_after : List TermPage
  pages_after = pages ++ page ∷ []

  low_before : (number : ℕ) → number < length pages → low_pair number pages_after ≡ low_pair number pages
  low_before number h = ap low_of (get_or_append_left pages (page ∷ []) no_term_page number h)

  low_new : low_pair (length pages) pages_after ≡ low_of page
  low_new = ap low_of (get_or-append_seam pages page [] no_term_page)

  here : (k : ℕ) → k ≡ at → get_or order_after k 0 ≡ length pages
  here k same = ap (λ (k : ℕ). get_or order_after k 0) same ∙ get_or-insert_at order at (length pages) 0 place.within

  below : (k : ℕ) → k < at → get_or order_after k 0 ≡ get_or order k 0
  below k h = get_or-insert_below order at (length pages) 0 k h place.within

  above : (k : ℕ) → at < k → get_or order_after k 0 ≡ get_or order (k - 1) 0
  above k h =
      let same : k ≡ (k - 1) + 1 = omega (arith, h) in
      ap (λ (k : ℕ). get_or order_after k 0) same ∙ get_or-insert_above order at (length pages) 0 (k - 1) (omega (arith, h)) place.within

  low_here : (k : ℕ) → k ≡ at → low_pair (get_or order_after k 0) pages_after ≡ low_of page
  low_here k same = ap (λ (number : ℕ). low_pair number pages_after) (here k same) ∙ low_new

  low_below : (k : ℕ) → k < at → low_pair (get_or order_after k 0) pages_after ≡ low_pair (get_or order k 0) pages
  low_below k h =
      ap (λ (number : ℕ). low_pair number pages_after) (below k h) ∙ low_before (get_or order k 0) (is.there k (omega (arith, h, place.within)))

  low_above : (k : ℕ) → at < k → k < length order + 1 → low_pair (get_or order_after k 0) pages_after ≡ low_pair (get_or order (k - 1) 0) pages
  low_above k h lt =
      ap (λ (number : ℕ). low_pair number pages_after) (above k h) ∙ low_before (get_or order (k - 1) 0) (is.there (k - 1) (omega (arith, h, lt)))

  -- the new page is behind those before it
  less_below : (k : ℕ) (o : Ordering) → k < at → pair_cmp (low_pair (get_or order k 0) pages) (low_of page) ≡ o
      → pair_cmp (low_pair (get_or order k 0) pages) (low_of page) ≡ Less
  less_below k Less h e = e
  less_below k Equal h e =
      absurd (other (get_or order k 0) (is.there k (omega (arith, h, place.within))) (same_pair (low_pair (get_or order k 0) pages) (low_of page) e))
  less_below k Greater h e = absurd (place.up_to k h e)

  less_above : (k : ℕ) → at ≤ k → k < length order → pair_cmp (low_of page) (low_pair (get_or order k 0) pages) ≡ Less
  less_above k h lt = flipped_back (low_pair (get_or order k 0) pages) (low_of page) (place.behind k h lt)

  abbrev Rises : ℕ → ℕ → Type 0
  Rises i j = pair_cmp (low_pair (get_or order_after i 0) pages_after) (low_pair (get_or order_after j 0) pages_after) ≡ Less

  by_lows : (i j : ℕ) (p q : Pair) → low_pair (get_or order_after i 0) pages_after ≡ p → low_pair (get_or order_after j 0) pages_after ≡ q
      → pair_cmp p q ≡ Less → Rises i j
  by_lows i j p q first second less =
      ap (λ (p : Pair). pair_cmp p (low_pair (get_or order_after j 0) pages_after)) first ∙ ap (pair_cmp p) second ∙ less

  up_to_here : (i j : ℕ) → i < j → j ≡ at → Rises i j
  up_to_here i j lt same =
      let before : i < at = omega (arith, lt, same) in
      by_lows i j (low_pair (get_or order i 0) pages) (low_of page) (low_below i before) (low_here j same)
      (less_below i (pair_cmp (low_pair (get_or order i 0) pages) (low_of page)) before refl)

  all_below : (i j : ℕ) → i < j → j < at → Rises i j
  all_below i j lt before =
      by_lows i j (low_pair (get_or order i 0) pages) (low_pair (get_or order j 0) pages) (low_below i (omega (arith, lt, before))) (low_below j before)
      (is.rising i j lt (omega (arith, before, place.within)))

  from_below : (i j : ℕ) → i < at → at < j → j < length order + 1 → Rises i j
  from_below i j before behind lt =
      by_lows i j (low_pair (get_or order i 0) pages) (low_pair (get_or order (j - 1) 0) pages) (low_below i before) (low_above j behind lt)
      (is.rising i (j - 1) (omega (arith, before, behind)) (omega (arith, behind, lt)))

  from_here : (i j : ℕ) → i ≡ at → at < j → j < length order + 1 → Rises i j
  from_here i j same behind lt =
      by_lows i j (low_of page) (low_pair (get_or order (j - 1) 0) pages) (low_here i same) (low_above j behind lt)
      (less_above (j - 1) (omega (arith, behind)) (omega (arith, behind, lt)))

  all_above : (i j : ℕ) → at < i → i < j → j < length order + 1 → Rises i j
  all_above i j behind rise lt =
      let later : at < j = omega (arith, behind, rise) in
      by_lows i j (low_pair (get_or order (i - 1) 0) pages) (low_pair (get_or order (j - 1) 0) pages)
      (low_above i behind (omega (arith, rise, lt))) (low_above j later lt)
      (is.rising (i - 1) (j - 1) (omega (arith, behind, rise)) (omega (arith, later, lt)))

  by_first : (i j : ℕ) → i < j → at < j → j < length order + 1 → (i ≡ at) ⊎ ((i < at) ⊎ (at < i)) → Rises i j
  by_first i j rise behind lt (inl same) = from_here i j same behind lt
  by_first i j rise behind lt (inr (inl before)) = from_below i j before behind lt
  by_first i j rise behind lt (inr (inr after)) = all_above i j after rise lt

  by_second : (i j : ℕ) → i < j → j < length order + 1 → (j ≡ at) ⊎ ((j < at) ⊎ (at < j)) → Rises i j
  by_second i j rise lt (inl same) = up_to_here i j rise same
  by_second i j rise lt (inr (inl before)) = all_below i j rise before
  by_second i j rise lt (inr (inr behind)) = by_first i j rise behind lt (cases_order i at)

  length_after : length order_after ≡ length order + 1
  length_after = length-insert order at (length pages) place.within

  one_more : length pages_after ≡ length pages + 1
  one_more = length-append pages (page ∷ [])

  there_now : (k : ℕ) → k < length order + 1 → (k ≡ at) ⊎ ((k < at) ⊎ (at < k)) → get_or order_after k 0 < length pages + 1
  there_now k lt (inl same) = omega (arith, here k same)
  there_now k lt (inr (inl before)) =
      let h : get_or order k 0 < length pages = is.there k (omega (arith, before, place.within)) in omega (arith, h, below k before)
  there_now k lt (inr (inr behind)) =
      let h : get_or order (k - 1) 0 < length pages = is.there (k - 1) (omega (arith, behind, lt)) in omega (arith, h, above k behind)

  abbrev StandsAfter : ℕ → Type 0
  StandsAfter number = (i : ℕ) × (i < length order_after) × (get_or order_after i 0 ≡ number)

  stands_still : (number i : ℕ) → i < length order → get_or order i 0 ≡ number → (i < at) ⊎ (at ≤ i) → StandsAfter number
  stands_still number i lt same (inl before) = (i, omega (arith, lt, length_after), below i before ∙ same)
  stands_still number i lt same (inr behind) =
      (i + 1, omega (arith, lt, length_after), get_or-insert_above order at (length pages) 0 i behind place.within ∙ same)

  stands_now : (number : ℕ) → (number < length pages) ⊎ (length pages ≤ number) → number < length pages + 1 → StandsAfter number
  stands_now number (inl old) lt = let at_old = is.all number old in stands_still number at_old.0 at_old.1 at_old.2 (cases_lt at_old.0 at)
  stands_now number (inr new) lt =
      let same : length pages ≡ number = omega (arith, new, lt) in
      (at, omega (arith, length_after, place.within), here at refl ∙ same)

  pub order_inserted : length pages < most_term_pages → IsOrderOf order_after pages_after
  order_inserted few = record {
    some = omega (arith, one_more);
    few = omega (arith, one_more, few);
    first = low_before 0 is.some ∙ is.first;
    count = length_after ∙ ap (λ (n : ℕ). n + 1) is.count ∙ sym one_more;
    there = λ k lt.
        let h : get_or order_after k 0 < length pages + 1 = there_now k (omega (arith, lt, length_after)) (cases_order k at) in
        omega (arith, h, one_more);
    rising = λ i j rise lt. by_second i j rise (omega (arith, lt, length_after)) (cases_order j at);
    all = λ number h. stands_now number (cases_lt number (length pages)) (omega (arith, h, one_more));
  }

-- ---- what stands at a position

pub copied_is : (found : Option (Bor ℕ)) (xs : List ℕ) (i : ℕ) → IfSome found (λ x. x.now ≡ get_or xs i x.now)
    → (nat_lt i (length xs) ≡ is_some found) → option_copied found ≡ slice_get xs i
copied_is None xs i same there = sym (slice_get_past xs i (ltb-false i (length xs) there))
copied_is (Some x) xs i same there = sym (slice_get-get_or xs i x.now (ltb-true i (length xs) there) ∙ ap Some (sym same))
