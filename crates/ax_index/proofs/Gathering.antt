-- A walk over pages finds the numbers of ranges: those that were found are of the set, and what was missed is ahead.
use Rattle.std.proofs.Common.{◌≡◌, ◌↔◌, ℕ, ◌<◌, List, [], length, sym, ◌∙◌, subst, true, ◌⊎◌, inl, inr, ⊎_elim, Option, Some, None}
use Rattle.std.specs.declared.cmp.Ordering.TheVariants.{Less}
use Rattle.ax_pair.specs.declared.pair.Pair.{Pair}
use Rattle.ax_pair.specs.Order.{pair_cmp}
use Rattle.ax_delta.specs.Said.{has, has_number}
use Rattle.ax_delta.proofs.SamePair.{the_pair}
use Rattle.ax_pages.specs.Contents.{TermPage, term_page}
use Rattle.ax_pages.specs.TermPages.{IsPageOf, low_pair}
use Rattle.ax_pairs.specs.Index.{IsIndex}
use Rattle.ax_pairs.specs.PagePairs.{HasPairs}
use Rattle.ax_pairs.specs.PairSets.{PairSet}
use Rattle.ax_pairs.proofs.Belonging.{somewhere}
use Rattle.ax_pairs.proofs.PairOrder.{NotAfter, order_cases, both_ways}
use Rattle.ax_term.specs.declared.range.TermRange.{TermRange}
use Rattle.ax_index.specs.Reading.{Gathers, HasAmong, HasWithin, IsAhead}
use Rattle.ax_index.specs.Wanted.{is_in_some}

-- with a walk that comes to this page next
pub record IsGathered (ranges : List TermRange) (set : PairSet) (pages : List TermPage) (next : Option ℕ) (numbers : List ℕ) : Type 0 where
  pub found : (n : ℕ) → has_number n numbers ≡ true → HasWithin ranges set n
  pub missed : (p : Pair) → is_in_some ranges p.term ≡ true → set p ≡ true → (has_number p.number numbers ≡ true) ⊎ IsAhead next p pages

pub start : (ranges : List TermRange) (set : PairSet) (pages : List TermPage) (next : Option ℕ)
    → ((p : Pair) → is_in_some ranges p.term ≡ true → IsAhead next p pages) → IsGathered ranges set pages next []
start ranges set pages next reaches = record {
  found = λ n h. absurd (cc);
  missed = λ p within member. inr (reaches p within);
}

pub stop : (ranges : List TermRange) (set : PairSet) (pages : List TermPage) (next : Option ℕ) (numbers : List ℕ) → next ≡ None
    → IsGathered ranges set pages next numbers
    → (n : ℕ) → (has_number n numbers ≡ true) ↔ HasWithin ranges set n
stop ranges set pages None numbers e is n = (
  λ h. is.found n h,
  λ h. ⊎_elim (λ (there : has_number n numbers ≡ true). there) (λ (ahead : ⊥). absurd ahead) (is.missed (the_pair h.0 n) h.1 h.2),
)
stop ranges set pages (Some page) numbers e is n = absurd (cc)

module _ (ranges : List TermRange) (set : PairSet) (pages : List TermPage) (page : ℕ) (next : Option ℕ) (old new : List ℕ) (is : IsIndex pages set)
    (there : page < length pages)
    (was : IsGathered ranges set pages (Some page) old) (gathers : Gathers ranges (is.pairs page) old new)
    (reaches : (p : Pair) (other : ℕ) → is_in_some ranges p.term ≡ true → other < length pages
    → pair_cmp (low_pair page pages) (low_pair other pages) ≡ Less → NotAfter (low_pair other pages) p → IsAhead next p pages) where
  here_found : (n : ℕ) → HasAmong ranges (is.pairs page) n → HasWithin ranges set n
  here_found n (term, within, h) = (term, within, sym (is.all page (the_pair term n) (is.belong page there (the_pair term n) h)) ∙ h)

  of_page : (p : Pair) (m : ℕ) → is_in_some ranges p.term ≡ true → set p ≡ true → NotAfter (low_pair page pages) p → IsPageOf p m pages
      → (has_number p.number new ≡ true) ⊎ IsAhead next p pages
  of_page p m within member ahead of =
      ⊎_elim
      (λ (up : NotAfter (low_pair m pages) (low_pair page pages)).
      let same : page ≡ m =
      is.apart.apart page m there of.there
      (both_ways (low_pair page pages) (low_pair m pages) (of.greatest page there ahead) up)
      in
      let here : has p (is.pairs page) ≡ true = is.all page p (subst (λ (k : ℕ). IsPageOf p k pages) (sym same) of) ∙ member in
      inl ((gathers p.number).1 (inr (p.term, within, here))))
      (λ (less : pair_cmp (low_pair page pages) (low_pair m pages) ≡ Less). inr (reaches p m within of.there less of.below))
      (order_cases (low_pair m pages) (low_pair page pages))

  step : IsGathered ranges set pages next new
  step = record {
    found = λ n h.
        ⊎_elim (λ (before : has_number n old ≡ true). was.found n before) (λ (here : HasAmong ranges (is.pairs page) n). here_found n here)
        ((gathers n).0 h);
    missed = λ p within member.
        ⊎_elim
        (λ (before : has_number p.number old ≡ true). inl ((gathers p.number).1 (inl before)))
        (λ (ahead : (page < length pages) × NotAfter (low_pair page pages) p).
        let (m, of) = somewhere pages p is.apart in of_page p m within member ahead.1 of)
        (was.missed p within member);
  }

-- the same by what calls say of pages that are these
pub step_by : (ranges : List TermRange) (set : PairSet) (pages now after : List TermPage) (page : ℕ) (next : Option ℕ) (old new : List ℕ)
    → now ≡ pages → after ≡ pages
    → ((pairs : List Pair) → HasPairs (term_page page now) pairs → Gathers ranges pairs old new)
    → ((p : Pair) (other : ℕ) → is_in_some ranges p.term ≡ true → other < length after
    → pair_cmp (low_pair page after) (low_pair other after) ≡ Less → NotAfter (low_pair other after) p → IsAhead next p after)
    → page < length pages → IsIndex pages set → IsGathered ranges set pages (Some page) old → IsGathered ranges set pages next new
step_by ranges set pages now after page next old new e f gathers reaches there is was =
    step ranges set pages page next old new is there was
    (gathers (is.pairs page) (subst (λ (ts : List TermPage). HasPairs (term_page page ts) (is.pairs page)) (sym e) (is.have page there)))
    (subst
    (λ (ts : List TermPage). (p : Pair) (other : ℕ) → is_in_some ranges p.term ≡ true → other < length ts
    → pair_cmp (low_pair page ts) (low_pair other ts) ≡ Less → NotAfter (low_pair other ts) p → IsAhead next p ts)
    f reaches)
