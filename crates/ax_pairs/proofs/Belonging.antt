-- Which page a pair belongs to: one of them and no other; and how that changes when pages keep their low
-- pairs, and when one page more stands behind the others.
use Rattle.std.proofs.Common.{◌≡◌, ◌≢◌, ℕ, zero, suc, ◌+◌, ◌<◌, ◌≤◌, List, [], ◌∷◌, ◌++◌, length, arith, refl, sym, ap, ◌∙◌, subst, ◌⊎◌, inl, inr, ⊎_elim}
use Rattle.std.proofs.lemmas.Bool.{cases_eq, cases_lt}
use Rattle.std.proofs.lemmas.List.{get_or_append_left, length-append}
use Rattle.std.specs.Ordering.{nat_cmp}
use Rattle.std.specs.declared.cmp.Ordering.{Ordering}
use Rattle.std.specs.declared.cmp.Ordering.TheVariants.{Less, Equal, Greater}
use Rattle.std.specs.Cmp.{nat_cmp_is}
use Rattle.ax_pair.specs.declared.pair.Pair.{Pair}
use Rattle.ax_pair.specs.Low.{first_pair}
use Rattle.ax_pair.specs.Order.{pair_cmp}
use Rattle.ax_pages.specs.Contents.{TermPage, no_term_page, low_of}
use Rattle.ax_pages.specs.TermPages.{AreApart, IsPageOf, low_pair}
use Rattle.ax_pages.proofs.TermLists.{at_behind}
use Rattle.ax_pairs.proofs.PairOrder.{NotAfter, order_cases, same_not_after, less_not_after, not_both, not_after_then, both_ways}

-- ---- one page

pub one_page : (pages : List TermPage) (p : Pair) (m n : ℕ) → AreApart pages → IsPageOf p m pages → IsPageOf p n pages → m ≡ n
one_page pages p m n are one other =
    are.apart m n one.there other.there
    (both_ways (low_pair m pages) (low_pair n pages) (other.greatest m one.there one.below) (one.greatest n other.there other.below))

-- of the first pages, the one with the greatest low pair that is not after the pair
record IsBest (pages : List TermPage) (p : Pair) (count number : ℕ) : Type 0 where
  within : number < count
  below : NotAfter (low_pair number pages) p
  greatest : (other : ℕ) → other < count → NotAfter (low_pair other pages) p → NotAfter (low_pair other pages) (low_pair number pages)

not_greater : (o r : Ordering) → (r ≡ Greater → ⊥) → o ≡ r → o ≡ Greater → ⊥
not_greater o r apart e greater = apart (sym e ∙ greater)

pub first_not_after : (p : Pair) → NotAfter first_pair p
first_not_after p = by_term p.term p.number
  where
    by_number : (n : ℕ) → nat_cmp 0 n ≡ Greater → ⊥
    by_number n greater =
        ⊎_elim
        (λ (some : 0 < n). let less : nat_cmp 0 n ≡ Less = sym (nat_cmp_is 0 n Less some) in not_greater (nat_cmp 0 n) Less (λ e. cc) less greater)
        (λ (none : n ≤ 0).
        let same : 0 ≡ n = omega arith in
        let equal : nat_cmp 0 n ≡ Equal = sym (nat_cmp_is 0 n Equal same) in not_greater (nat_cmp 0 n) Equal (λ e. cc) equal greater)
        (cases_lt 0 n)

    by_term : (term : List ℕ) (n : ℕ) → NotAfter first_pair (record { term = term; number = n })
    by_term [] n greater = by_number n greater
    by_term (byte ∷ term) n greater = cc

next_best : (pages : List TermPage) (p : Pair) (count number : ℕ) → IsBest pages p count number → (best : ℕ) × IsBest pages p (suc count) best
next_best pages p count number is =
    ⊎_elim
    (λ (here : NotAfter (low_pair count pages) p).
    ⊎_elim
    (λ (up : NotAfter (low_pair number pages) (low_pair count pages)). (count, taken here up))
    (λ (less : pair_cmp (low_pair count pages) (low_pair number pages) ≡ Less).
    (number, kept (λ h. less_not_after (low_pair count pages) (low_pair number pages) less)))
    (order_cases (low_pair number pages) (low_pair count pages)))
    (λ (behind : pair_cmp p (low_pair count pages) ≡ Less). (number, kept (λ h. absurd (not_both p (low_pair count pages) behind h))))
    (order_cases (low_pair count pages) p)
  where
    taken : NotAfter (low_pair count pages) p → NotAfter (low_pair number pages) (low_pair count pages) → IsBest pages p (suc count) count
    taken here up = record {
      within = omega arith;
      below = here;
      greatest = λ other h not_after.
          ⊎_elim
          (λ (e : other ≡ count). same_not_after (low_pair other pages) (low_pair count pages) (ap (λ (n : ℕ). low_pair n pages) e))
          (λ (apart : other ≡ count → ⊥).
          let l : other < count = ⊎_elim (λ (b : other < count). b) (λ (b : count ≤ other). absurd (apart (omega arith))) (cases_lt other count) in
          not_after_then (low_pair other pages) (low_pair number pages) (low_pair count pages) (is.greatest other l not_after) up)
          (cases_eq other count);
    }

    kept : (NotAfter (low_pair count pages) p → NotAfter (low_pair count pages) (low_pair number pages)) → IsBest pages p (suc count) number
    kept no_better = record {
      within = omega (arith, is.within);
      below = is.below;
      greatest = λ other h not_after.
          ⊎_elim
          (λ (e : other ≡ count).
          subst (λ (n : ℕ). NotAfter (low_pair n pages) (low_pair number pages)) (sym e)
          (no_better (subst (λ (n : ℕ). NotAfter (low_pair n pages) p) e not_after)))
          (λ (apart : other ≡ count → ⊥).
          let l : other < count = ⊎_elim (λ (b : other < count). b) (λ (b : count ≤ other). absurd (apart (omega arith))) (cases_lt other count) in
          is.greatest other l not_after)
          (cases_eq other count);
    }

best_of : (pages : List TermPage) (p : Pair) → AreApart pages → (k : ℕ) → (number : ℕ) × IsBest pages p (suc k) number
best_of pages p are zero = (
  0,
  record {
    within = omega arith;
    below = subst (λ (l : Pair). NotAfter l p) (sym are.first) (first_not_after p);
    greatest = λ other h not_after. same_not_after (low_pair other pages) (low_pair 0 pages) (ap (λ (n : ℕ). low_pair n pages) (omega arith));
  },
)
best_of pages p are (suc k) = let (number, is) = best_of pages p are k in next_best pages p (suc k) number is

pub somewhere : (pages : List TermPage) (p : Pair) → AreApart pages → (number : ℕ) × IsPageOf p number pages
somewhere pages p are = by_count (length pages) refl
  where
    by_count : (count : ℕ) → length pages ≡ count → (number : ℕ) × IsPageOf p number pages
    by_count zero e = absurd (omega (arith, are.some))
    by_count (suc k) e =
        let (number, is) = best_of pages p are k in (
          number,
          record {
            there = omega (arith, is.within);
            below = is.below;
            greatest = λ other h not_after. is.greatest other (omega arith) not_after;
          },
        )

-- ---- pages that keep their low pairs

-- as many pages, each with its low pair
pub record HaveSameLows (before after : List TermPage) : Type 0 where
  pub many : length after ≡ length before
  pub low : (n : ℕ) → low_pair n after ≡ low_pair n before

pub same_lows_back : (before after : List TermPage) → HaveSameLows before after → HaveSameLows after before
same_lows_back before after same = record { many = sym same.many; low = λ n. sym (same.low n) }

pub belongs_still : (before after : List TermPage) (p : Pair) (n : ℕ) → HaveSameLows before after → IsPageOf p n before → IsPageOf p n after
belongs_still before after p n same is = record {
  there = omega (arith, same.many, is.there);
  below = subst (λ (l : Pair). NotAfter l p) (sym (same.low n)) is.below;
  greatest = λ other h not_after.
      subst (λ (l : Pair). NotAfter l (low_pair n after)) (sym (same.low other))
      (subst (λ (l : Pair). NotAfter (low_pair other before) l) (sym (same.low n))
      (is.greatest other (omega (arith, same.many)) (subst (λ (l : Pair). NotAfter l p) (same.low other) not_after)));
}

pub apart_still : (before after : List TermPage) → HaveSameLows before after → AreApart before → AreApart after
apart_still before after same are = record {
  some = omega (arith, same.many, are.some);
  first = same.low 0 ∙ are.first;
  apart = λ m n h k e. are.apart m n (omega (arith, same.many)) (omega (arith, same.many)) (sym (same.low m) ∙ e ∙ same.low n);
}

-- ---- one page more

module _ (pages : List TermPage) (page : TermPage) where
  abbrev pub longer : List TermPage
  longer = pages ++ page ∷ []

  pub low_before : (m : ℕ) → m < length pages → low_pair m longer ≡ low_pair m pages
  low_before m h = ap low_of (get_or_append_left pages (page ∷ []) no_term_page m h)

  pub low_behind : low_pair (length pages) longer ≡ low_of page
  low_behind = ap low_of (at_behind page pages (length pages) refl)

  pub one_more : length longer ≡ length pages + 1
  one_more = length-append pages (page ∷ [])

  last_or_before : (m : ℕ) → m < length longer → (m ≡ length pages) ⊎ (m < length pages)
  last_or_before m h =
      ⊎_elim (λ (e : m ≡ length pages). inl e)
      (λ (apart : m ≡ length pages → ⊥).
      inr (⊎_elim (λ (b : m < length pages). b) (λ (b : length pages ≤ m). absurd (apart (omega (arith, one_more)))) (cases_lt m (length pages))))
      (cases_eq m (length pages))

  -- a pair of a page stays where the new low pair is not between the page's and the pair
  pub stays : (p : Pair) (m : ℕ) → IsPageOf p m pages → (NotAfter (low_of page) p → NotAfter (low_of page) (low_pair m pages)) → IsPageOf p m longer
  stays p m is outside = record {
    there = omega (arith, one_more, is.there);
    below = subst (λ (l : Pair). NotAfter l p) (sym (low_before m is.there)) is.below;
    greatest = λ other h not_after.
        subst (λ (l : Pair). NotAfter (low_pair other longer) l) (sym (low_before m is.there))
        (⊎_elim
        (λ (e : other ≡ length pages).
        let low : low_pair other longer ≡ low_of page = ap (λ (n : ℕ). low_pair n longer) e ∙ low_behind in
        subst (λ (l : Pair). NotAfter l (low_pair m pages)) (sym low) (outside (subst (λ (l : Pair). NotAfter l p) low not_after)))
        (λ (l : other < length pages).
        let low : low_pair other longer ≡ low_pair other pages = low_before other l in
        subst (λ (x : Pair). NotAfter x (low_pair m pages)) (sym low) (is.greatest other l (subst (λ (x : Pair). NotAfter x p) low not_after)))
        (last_or_before other h));
  }

  -- what belongs to a page that was there did so before
  pub was : (p : Pair) (m : ℕ) → m < length pages → IsPageOf p m longer → IsPageOf p m pages
  was p m there is = record {
    there = there;
    below = subst (λ (l : Pair). NotAfter l p) (low_before m there) is.below;
    greatest = λ other h not_after.
        subst (λ (l : Pair). NotAfter (low_pair other pages) l) (low_before m there)
        (subst (λ (l : Pair). NotAfter l (low_pair m longer)) (low_before other h)
        (is.greatest other (omega (arith, one_more)) (subst (λ (l : Pair). NotAfter l p) (sym (low_before other h)) not_after)));
  }

  -- and is not from the new low pair on, unless that is not after the page's
  pub not_past : (p : Pair) (m : ℕ) → m < length pages → IsPageOf p m longer → NotAfter (low_of page) p → NotAfter (low_of page) (low_pair m pages)
  not_past p m there is not_after =
      subst (λ (l : Pair). NotAfter (low_of page) l) (low_before m there)
      (subst (λ (l : Pair). NotAfter l (low_pair m longer)) low_behind
      (is.greatest (length pages) (omega (arith, one_more)) (subst (λ (l : Pair). NotAfter l p) (sym low_behind) not_after)))

  -- the new page has what belonged to the page of its low pair, from that pair on
  module _ (number : ℕ) (of : IsPageOf (low_of page) number pages) where
    pub goes : (p : Pair) → IsPageOf p number pages → NotAfter (low_of page) p → IsPageOf p (length pages) longer
    goes p is from = record {
      there = omega (arith, one_more);
      below = subst (λ (l : Pair). NotAfter l p) (sym low_behind) from;
      greatest = λ other h not_after.
          subst (λ (l : Pair). NotAfter (low_pair other longer) l) (sym low_behind)
          (⊎_elim
          (λ (e : other ≡ length pages). same_not_after (low_pair other longer) (low_of page) (ap (λ (n : ℕ). low_pair n longer) e ∙ low_behind))
          (λ (l : other < length pages).
          let low : low_pair other longer ≡ low_pair other pages = low_before other l in
          subst (λ (x : Pair). NotAfter x (low_of page)) (sym low)
          (not_after_then (low_pair other pages) (low_pair number pages) (low_of page)
          (is.greatest other l (subst (λ (x : Pair). NotAfter x p) low not_after)) of.below))
          (last_or_before other h));
    }

    pub came_from : (p : Pair) → IsPageOf p (length pages) longer → NotAfter (low_of page) p
    came_from p is = subst (λ (l : Pair). NotAfter l p) low_behind is.below

    pub came : (p : Pair) → IsPageOf p (length pages) longer → IsPageOf p number pages
    came p is = record {
      there = of.there;
      below = not_after_then (low_pair number pages) (low_of page) p of.below (came_from p is);
      greatest = λ other h not_after.
          let low : low_pair other longer ≡ low_pair other pages = low_before other h in
          let up : NotAfter (low_pair other pages) (low_of page) =
          subst (λ (l : Pair). NotAfter (low_pair other pages) l) low_behind
          (subst (λ (l : Pair). NotAfter l (low_pair (length pages) longer)) low
          (is.greatest other (omega (arith, one_more)) (subst (λ (l : Pair). NotAfter l p) (sym low) not_after)))
          in
          of.greatest other h up;
    }

    -- a pair of another page stays
    pub others_stay : (p : Pair) (m : ℕ) → AreApart pages → m ≢ number → IsPageOf p m pages → IsPageOf p m longer
    others_stay p m are apart is =
        stays p m is
        (λ not_after.
        ⊎_elim
        (λ (up : NotAfter (low_of page) (low_pair m pages)). up)
        (λ (less : pair_cmp (low_pair m pages) (low_of page) ≡ Less).
        let one : NotAfter (low_pair m pages) (low_pair number pages) =
        of.greatest m is.there (less_not_after (low_pair m pages) (low_of page) less)
        in
        let other : NotAfter (low_pair number pages) (low_pair m pages) =
        is.greatest number of.there (not_after_then (low_pair number pages) (low_of page) p of.below not_after)
        in
        absurd (apart (are.apart m number is.there of.there (both_ways (low_pair m pages) (low_pair number pages) one other))))
        (order_cases (low_of page) (low_pair m pages)))

    -- pages are told apart still, where the low pair is not the one of its page
    pub apart_more : AreApart pages → low_of page ≢ low_pair number pages → AreApart longer
    apart_more are fresh = record {
      some = omega (arith, one_more);
      first = low_before 0 are.some ∙ are.first;
      apart = λ m n h k e.
          ⊎_elim
          (λ (last : m ≡ length pages).
          ⊎_elim (λ (too : n ≡ length pages). last ∙ sym too)
          (λ (l : n < length pages). absurd (none n l (sym (low_before n l) ∙ sym e ∙ ap (λ (i : ℕ). low_pair i longer) last ∙ low_behind)))
          (last_or_before n k))
          (λ (l : m < length pages).
          ⊎_elim (λ (last : n ≡ length pages). absurd (none m l (sym (low_before m l) ∙ e ∙ ap (λ (i : ℕ). low_pair i longer) last ∙ low_behind)))
          (λ (too : n < length pages). are.apart m n l too (sym (low_before m l) ∙ e ∙ low_before n too))
          (last_or_before n k))
          (last_or_before m h);
    }
      where
        none : (n : ℕ) → n < length pages → low_pair n pages ≡ low_of page → ⊥
        none n l e =
            let up : NotAfter (low_of page) (low_pair number pages) =
            subst (λ (x : Pair). NotAfter x (low_pair number pages)) e
            (of.greatest n l (same_not_after (low_pair n pages) (low_of page) e))
            in
            fresh (both_ways (low_of page) (low_pair number pages) up of.below)
