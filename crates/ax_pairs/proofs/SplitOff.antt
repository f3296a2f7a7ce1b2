-- A page split off from another: what the set is then.
use Rattle.std.proofs.Common.{◌≡◌, ◌≢◌, ℕ, ◌<◌, ◌≤◌, List, [], ◌∷◌, length, arith, refl, sym, ap, ◌∙◌, subst, Bool, true, false, cond, if◌then◌else◌}
use Rattle.std.proofs.Common.{◌⊎◌, inl, inr, ⊎_elim}
use Rattle.std.proofs.lemmas.Bool.{cases_eq, cases_lt}
use Rattle.std.proofs.lemmas.List.{get_or_append_left}
use Rattle.ax_pair.specs.declared.pair.Pair.{Pair}
use Rattle.ax_delta.specs.Said.{has}
use Rattle.ax_delta.proofs.SamePair.{true_or_false}
use Rattle.ax_pages.specs.Contents.{TermPage, no_term_page, term_page, low_of}
use Rattle.ax_pages.specs.TermPages.{IsPageOf, low_pair}
use Rattle.ax_pages.proofs.TermLists.{at_behind}
use Rattle.ax_pairs.specs.Index.{AllBelong, IsIndex}
use Rattle.ax_pairs.specs.PagePairs.{HasPairs}
use Rattle.ax_pairs.specs.PairSets.{PairSet}
use Rattle.ax_pairs.proofs.PairOrder.{NotAfter, both_ways}
use Rattle.ax_pairs.proofs.Belonging.{one_page, longer, one_more, stays, was, not_past, goes, came, came_from, others_stay, apart_more}
use Rattle.ax_pairs.proofs.Changed.{at_number, at_same, at_other, has_alike}

-- a set and the pairs of a list
abbrev pub with_list : List Pair → PairSet → Pair → Bool
with_list list set p = if has p list then true else set p

cond_false : (b c : Bool) → c ≡ false → b ≡ cond b true c
cond_false true c e = refl
cond_false false c e = sym e

module _ (pages : List TermPage) (set : PairSet) (number : ℕ) (page : TermPage) (list : List Pair) (is : IsIndex pages set)
    (of : IsPageOf (low_of page) number pages) (fresh : low_of page ≢ low_pair number pages) (has_list : HasPairs page list)
    (belong : AllBelong list number pages) (from : (p : Pair) → has p list ≡ true → NotAfter (low_of page) p)
    (none : (p : Pair) → IsPageOf p number pages → NotAfter (low_of page) p → set p ≡ false) where
  last_or_before : (m : ℕ) → m < length (longer pages page) → (m ≡ length pages) ⊎ (m < length pages)
  last_or_before m h =
      ⊎_elim (λ (e : m ≡ length pages). inl e)
      (λ (apart : m ≡ length pages → ⊥).
      inr (⊎_elim (λ (b : m < length pages). b) (λ (b : length pages ≤ m). absurd (apart (omega (arith, one_more pages page)))) (cases_lt m (length pages))))
      (cases_eq m (length pages))

  -- none of the list is of a page that was there
  not_in_list : (p : Pair) (n : ℕ) → n < length pages → IsPageOf p n (longer pages page) → has p list ≡ false
  not_in_list p n l at =
      ⊎_elim
      (λ (in_list : has p list ≡ true).
      let same : n ≡ number = one_page pages p n number is.apart (was pages page p n l at) (belong p in_list) in
      let up : NotAfter (low_of page) (low_pair number pages) =
      subst (λ (k : ℕ). NotAfter (low_of page) (low_pair k pages)) same (not_past pages page p n l at (from p in_list))
      in
      absurd (fresh (both_ways (low_of page) (low_pair number pages) up of.below)))
      (λ (not_in : has p list ≡ false). not_in)
      (true_or_false (has p list))

  -- a pair that a page had stays there
  still : (p : Pair) (n : ℕ) → n < length pages → has p (is.pairs n) ≡ true → IsPageOf p n (longer pages page)
  still p n l in_page =
      let before : IsPageOf p n pages = is.belong n l p in_page in
      ⊎_elim
      (λ (same : n ≡ number).
      stays pages page p n before
      (λ not_after.
      let out : set p ≡ false = none p (subst (λ (k : ℕ). IsPageOf p k pages) same before) not_after in
      let in_it : set p ≡ true = sym (is.all n p before) ∙ in_page in
      absurd (cc)))
      (λ (apart : n ≡ number → ⊥). others_stay pages page number of p n is.apart apart before)
      (cases_eq n number)

  pub split_off : IsIndex (longer pages page) (with_list list set)
  split_off = record {
    apart = apart_more pages page number of is.apart fresh;
    pairs = λ n. at_number (length pages) n list (is.pairs n);
    have = λ n h.
        ⊎_elim
        (λ (e : n ≡ length pages).
        has_alike (term_page n (longer pages page)) page (at_number (length pages) n list (is.pairs n)) list
        (at_behind page pages n e) (at_same (length pages) n list (is.pairs n) e) has_list)
        (λ (l : n < length pages).
        has_alike (term_page n (longer pages page)) (term_page n pages) (at_number (length pages) n list (is.pairs n)) (is.pairs n)
        (get_or_append_left pages (page ∷ []) no_term_page n l) (at_other (length pages) n list (is.pairs n) (λ e. omega arith)) (is.have n l))
        (last_or_before n h);
    belong = λ n h p in_list.
        ⊎_elim
        (λ (e : n ≡ length pages).
        let here : has p list ≡ true = sym (ap (has p) (at_same (length pages) n list (is.pairs n) e)) ∙ in_list in
        subst (λ (k : ℕ). IsPageOf p k (longer pages page)) (sym e) (goes pages page number of p (belong p here) (from p here)))
        (λ (l : n < length pages).
        still p n l (sym (ap (has p) (at_other (length pages) n list (is.pairs n) (λ e. omega arith))) ∙ in_list))
        (last_or_before n h);
    all = λ n p at.
        ⊎_elim
        (λ (e : n ≡ length pages).
        let last : IsPageOf p (length pages) (longer pages page) = subst (λ (k : ℕ). IsPageOf p k (longer pages page)) e at in
        ap (has p) (at_same (length pages) n list (is.pairs n) e)
        ∙ cond_false (has p list) (set p) (none p (came pages page number of p last) (came_from pages page number of p last)))
        (λ (l : n < length pages).
        ap (has p) (at_other (length pages) n list (is.pairs n) (λ e. omega arith)) ∙ is.all n p (was pages page p n l at)
        ∙ sym (ap (λ (b : Bool). cond b true (set p)) (not_in_list p n l at)))
        (last_or_before n at.there);
  }
