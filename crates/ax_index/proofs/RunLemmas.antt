-- Runs of changes of one page, and pairs of one page.
use Rattle.std.proofs.Common.{◌≡◌, ℕ, suc, ◌+◌, ◌<◌, ◌≤◌, List, [], ◌∷◌, ◌++◌, length, take, drop}
use Rattle.std.proofs.Common.{get_or, arith, refl, sym, ap, ◌∙◌, subst, Bool, true, false, cond}
use Rattle.std.proofs.Common.{⊎_elim, inl, inr}
use Rattle.std.proofs.lemmas.Bool.{cases_lt}
use Rattle.std.proofs.lemmas.List.{take_more}
use Rattle.std.proofs.Math.Seq.{drop-cons}
use Rattle.std.specs.Ordering.{is_lt}
use Rattle.std.specs.declared.cmp.Ordering.{Ordering}
use Rattle.std.specs.declared.cmp.Ordering.TheVariants.{Less, Equal, Greater}
use Rattle.std.specs.Prelude.{IsTrue}
use Rattle.ax_pair.proofs.PairOrder.{same_pair}
use Rattle.ax_pair.specs.declared.pair.Pair.{Pair}
use Rattle.ax_pair.specs.Order.{pair_cmp, Rise}
use Rattle.ax_delta.specs.declared.change.Change.{Change}
use Rattle.ax_delta.specs.Changes.{changed_pairs}
use Rattle.ax_delta.specs.Said.{is_same, has}
use Rattle.ax_delta.proofs.SamePair.{true_or_false, same_from}
use Rattle.ax_pages.specs.Contents.{TermPage}
use Rattle.ax_pages.specs.TermPages.{IsLastPage, IsNextPage, IsPageOf, low_pair}
use Rattle.ax_pairs.specs.Index.{AllBelong}
use Rattle.ax_pairs.proofs.PairOrder.{NotAfter, flipped, order_cases, same_not_after, less_not_after}
use Rattle.ax_index.specs.Planning.{IsFirstOf, AreBefore, StartsFrom, IsPartedAt}
use Rattle.ax_index.proofs.Lists.{changed_more, not_in_first, in_second, first_of_list, first_least, one_before}
use Rattle.ax_index.proofs.PlanningLemmas.{within_page, within_last, before_next, between}

pub is_less : (o : Ordering) → is_lt o ≡ true → o ≡ Less
is_less Less e = refl
is_less Equal e = absurd (cc)
is_less Greater e = absurd (cc)

pub not_less : (o : Ordering) → is_lt o ≡ false → o ≡ Less → ⊥
not_less o e less = let so : is_lt o ≡ true = ap is_lt less in absurd (cc)

-- what the test of a borrowed pair tells of the pair that it was borrowed from
pub same_before : (p q bound : Pair) (before told : Bool) → before ≡ is_lt (pair_cmp q bound) → q ≡ p → before ≡ told → is_lt (pair_cmp p bound) ≡ told
same_before p q bound before told is same so = ap (λ (r : Pair). is_lt (pair_cmp r bound)) (sym same) ∙ sym is ∙ so

-- ---- changes before a pair

pub before_one_more : (bound : Pair) (first : List Change) (change : Change) → AreBefore (changed_pairs first) bound → pair_cmp change.pair bound ≡ Less
    → AreBefore (changed_pairs (first ++ change ∷ [])) bound
before_one_more bound first change before less p h =
    let parted : has p (changed_pairs first ++ change.pair ∷ []) ≡ true = sym (ap (has p) (changed_more first (change ∷ []))) ∙ h in
    ⊎_elim
    (λ (in_it : has p (changed_pairs first) ≡ true). before p in_it)
    (λ (not_in : has p (changed_pairs first) ≡ false).
    let last : has p (change.pair ∷ []) ≡ true = sym (not_in_first p (changed_pairs first) (change.pair ∷ []) not_in) ∙ parted in
    ⊎_elim
    (λ (same : is_same change.pair p ≡ true). ap (λ (x : Pair). pair_cmp x bound) (sym (same_from change.pair p same)) ∙ less)
    (λ (other : is_same change.pair p ≡ false).
    let none : has p (change.pair ∷ []) ≡ false = ap (λ (b : Bool). cond b true false) other in absurd (cc))
    (true_or_false (is_same change.pair p)))
    (true_or_false (has p (changed_pairs first)))

pub starts_at : (bound : Pair) (change : Change) (behind all : List Change) → all ≡ change ∷ behind → (pair_cmp change.pair bound ≡ Less → ⊥)
    → StartsFrom all bound
starts_at bound change behind all is from = subst (λ (changes : List Change). StartsFrom changes bound) (sym is) from

-- ---- pairs of a page

pub ends_tell : (pages : List TermPage) (page : ℕ) (pairs : List Pair) (first last : Pair) (rest front : List Pair) → pairs ≡ first ∷ rest
    → pairs ≡ front ++ last ∷ [] → Rise pairs
    → IsPageOf first page pages → IsPageOf last page pages → AllBelong pairs page pages
ends_tell pages page pairs first last rest front begins ends rise of_first of_last p h =
    between pages page first p last of_first of_last
    (first_least first p rest (subst Rise begins rise) (sym (ap (has p) begins) ∙ h))
    (not_past (sym (ap (has p) ends) ∙ h))
  where
    not_past : has p (front ++ last ∷ []) ≡ true → NotAfter p last
    not_past in_it =
        ⊎_elim
        (λ (before : has p front ≡ true).
        less_not_after p last (one_before p last front (last ∷ []) (subst Rise ends rise) before (first_of_list last [])))
        (λ (not_before : has p front ≡ false).
        let at_end : has p (last ∷ []) ≡ true = sym (not_in_first p front (last ∷ []) not_before) ∙ in_it in
        ⊎_elim
        (λ (same : is_same last p ≡ true). same_not_after p last (sym (same_from last p same)))
        (λ (other : is_same last p ≡ false).
        let none : has p (last ∷ []) ≡ false = ap (λ (b : Bool). cond b true false) other in absurd (cc))
        (true_or_false (is_same last p)))
        (true_or_false (has p front))

pub first_told : (pages : List TermPage) (page : ℕ) (pairs : List Pair) (first : Pair) (rest : List Pair) → pairs ≡ first ∷ rest
    → AllBelong pairs page pages → IsPageOf first page pages
first_told pages page pairs first rest begins belong = belong first (ap (has first) begins ∙ first_of_list first rest)

pub last_told : (pages : List TermPage) (page : ℕ) (pairs : List Pair) (last : Pair) (front : List Pair) → pairs ≡ front ++ last ∷ []
    → AllBelong pairs page pages → IsPageOf last page pages
last_told pages page pairs last front ends belong = belong last (ap (has last) ends ∙ in_second last front (last ∷ []) (first_of_list last []))

-- ---- one pair of a page

pub before_low : (pages : List TermPage) (page : ℕ) (p low : Pair) → low ≡ low_pair page pages → is_lt (pair_cmp p low) ≡ true → IsPageOf p page pages → ⊥
before_low pages page p low same less of =
    of.below (subst (λ (l : Pair). pair_cmp l p ≡ Greater) same (flipped p low (is_less (pair_cmp p low) less)))

pub from_low : (pages : List TermPage) (page : ℕ) (p low : Pair) → low ≡ low_pair page pages → is_lt (pair_cmp p low) ≡ false → NotAfter (low_pair page pages) p
from_low pages page p low same not_before =
    subst (λ (l : Pair). NotAfter l p) same
    (⊎_elim (λ (up : NotAfter low p). up) (λ (less : pair_cmp p low ≡ Less). absurd (not_less (pair_cmp p low) not_before less)) (order_cases low p))

pub as_pair : (p : Pair) (term : List ℕ) (number : ℕ) → term ≡ p.term → number ≡ p.number → record { term = term; number = number } ≡ p
as_pair p term number first second = same_pair term p.term number p.number first second

pub told_before : (pages : List TermPage) (page : ℕ) (p low : Pair) (before : Bool) → low ≡ low_pair page pages → before ≡ is_lt (pair_cmp p low)
    → before ≡ true
    → (IsTrue false → IsPageOf p page pages) × (IsPageOf p page pages → IsTrue false)
told_before pages page p low before same is so =
    (λ e. absurd (cc), λ of. absurd (before_low pages page p low same (sym is ∙ so) of))

pub told_next : (pages : List TermPage) (page next : ℕ) (p low end : Pair) (before ends : Bool) → page < length pages → low ≡ low_pair page pages
    → before ≡ is_lt (pair_cmp p low)
    → before ≡ false → IsNextPage page next pages → end ≡ low_pair next pages → ends ≡ is_lt (pair_cmp p end)
    → (IsTrue ends → IsPageOf p page pages) × (IsPageOf p page pages → IsTrue ends)
told_next pages page next p low end before ends there same is not_so behind bound ends_is = (
  λ so. within_page pages page next p there behind (from_low pages page p low same (sym is ∙ not_so))
      (subst (λ (l : Pair). pair_cmp p l ≡ Less) bound (is_less (pair_cmp p end) (sym ends_is ∙ so))),
  λ of. ends_is ∙ ap (λ (l : Pair). is_lt (pair_cmp p l)) bound ∙ ap is_lt (before_next pages page next p behind of),
)

pub told_last : (pages : List TermPage) (page : ℕ) (p low : Pair) (before : Bool) → page < length pages → low ≡ low_pair page pages
    → before ≡ is_lt (pair_cmp p low)
    → before ≡ false → IsLastPage page pages → (IsTrue true → IsPageOf p page pages) × (IsPageOf p page pages → IsTrue true)
told_last pages page p low before there same is not_so last =
    (λ so. within_last pages page p there last (from_low pages page p low same (sym is ∙ not_so)), λ of. refl)

-- ---- a run

-- a run of the first change's page is not empty
pub some_in_run : (pages : List TermPage) (page : ℕ) (changes : List Change) (n : ℕ) → 0 < length changes → IsFirstOf changes page pages
    → IsPartedAt page (take n changes) (drop n changes) pages → 0 < n
some_in_run pages page changes n some first parted =
    ⊎_elim (λ (h : 0 < n). h)
    (λ (none : n ≤ 0).
    let zero_is : n ≡ 0 = omega arith in
    absurd (by_zero changes some first (subst (λ (k : ℕ). IsPartedAt page (take k changes) (drop k changes) pages) zero_is parted)))
    (cases_lt 0 n)
  where
    by_zero : (left : List Change) → 0 < length left → IsFirstOf left page pages → IsPartedAt page (take 0 left) (drop 0 left) pages → ⊥
    by_zero [] h at ends = absurd (omega arith)
    by_zero (change ∷ left) h at (inl (next, is, ends)) = ends.starts (before_next pages page next change.pair is at)
    by_zero (change ∷ left) h at (inr (last, none)) = absurd (cc)

pub before_more : (bound : Pair) (changes : List Change) (i : ℕ) (change : Change) → i < length changes → change ≡ get_or changes i change
    → AreBefore (changed_pairs (take i changes)) bound
    → pair_cmp change.pair bound ≡ Less → AreBefore (changed_pairs (take (i + 1) changes)) bound
before_more bound changes i change there is before less =
    subst (λ (first : List Change). AreBefore (changed_pairs first) bound)
    (ap (λ (c : Change). take i changes ++ c ∷ []) is ∙ sym (take_more changes i change there))
    (before_one_more bound (take i changes) change before less)

pub starts_here : (bound : Pair) (changes : List Change) (i : ℕ) (change : Change) → i < length changes → change ≡ get_or changes i change
    → (pair_cmp change.pair bound ≡ Less → ⊥) → StartsFrom (drop i changes) bound
starts_here bound changes i change there is from =
    starts_at bound change (drop (suc i) changes) (drop i changes)
    (drop-cons changes i change there ∙ ap (λ (c : Change). c ∷ drop (suc i) changes) (sym is)) from
