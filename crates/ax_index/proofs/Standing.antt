-- A walk over pages takes the number of each pair of the ranges that stands in its page, whatever the other pages hold.
use Rattle.std.proofs.Common.{◌≡◌, ℕ, ◌<◌, List, [], ◌∷◌, length, true, ◌⊎◌, inl, inr, ⊎_elim, Option, Some, None, subst, ◌∙◌}
use Rattle.std.specs.Prelude.{IfOk, Result}
use Rattle.std.specs.declared.cmp.Ordering.TheVariants.{Less}
use Rattle.ax_pair.specs.declared.pair.Pair.{Pair}
use Rattle.ax_pair.specs.Order.{pair_cmp}
use Rattle.ax_delta.specs.Said.{has_number}
use Rattle.ax_delta.proofs.SamePair.{the_pair}
use Rattle.ax_pages.specs.Contents.{TermPage, term_page}
use Rattle.ax_pages.specs.TermPages.{AreApart, IsPageOf, low_pair}
use Rattle.ax_store.specs.declared.fault.StoreFault.{StoreFault}
use Rattle.ax_pairs.specs.PagePairs.{HasPairs}
use Rattle.ax_pairs.proofs.PairOrder.{NotAfter, order_cases, both_ways}
use Rattle.ax_term.specs.declared.range.TermRange.{TermRange}
use Rattle.ax_index.specs.Grammar.{HasAllThatStand, IsInGrammar, StandsIn}
use Rattle.ax_index.specs.Reading.{Gathers, HasAmong, IsAhead}
use Rattle.ax_index.specs.Wanted.{is_in_some}

-- the numbers of the page's pairs with terms of the ranges are among these
abbrev pub AreTaken : List TermRange → TermPage → List ℕ → Type 0
AreTaken ranges page numbers = (pairs : List Pair) → HasPairs page pairs → (n : ℕ) → HasAmong ranges pairs n → has_number n numbers ≡ true

-- so of each page to which a pair of the ranges belongs, or it is ahead of a walk that comes to this page next
abbrev pub AreTakenTo : List TermRange → List TermPage → Option ℕ → List ℕ → Type 0
AreTakenTo ranges pages next numbers =
    (p : Pair) (k : ℕ) → is_in_some ranges p.term ≡ true → IsPageOf p k pages
    → AreTaken ranges (term_page k pages) numbers ⊎ IsAhead next p pages

pub taken_start : (ranges : List TermRange) (pages : List TermPage) (next : Option ℕ) (numbers : List ℕ)
    → ((p : Pair) → is_in_some ranges p.term ≡ true → IsAhead next p pages) → AreTakenTo ranges pages next numbers
taken_start ranges pages next numbers reaches p k within of = inr (reaches p within)

pub taken_end : (ranges : List TermRange) (pages : List TermPage) (next : Option ℕ) (numbers : List ℕ) → next ≡ None
    → AreTakenTo ranges pages next numbers → (number : ℕ) → StandsIn ranges pages number → has_number number numbers ≡ true
taken_end ranges pages None numbers e taken number stands =
    ⊎_elim
    (λ (here : AreTaken ranges (term_page stands.page pages) numbers). here stands.pairs stands.have number (stands.term, stands.within, stands.there))
    (λ (ahead : ⊥). absurd ahead)
    (taken (the_pair stands.term number) stands.page stands.within stands.of)
taken_end ranges pages (Some page) numbers e taken number stands = absurd (cc)

-- what was taken of a page is so still
more_taken : (ranges : List TermRange) (page other : TermPage) (old new : List ℕ) → IsInGrammar page
    → ((pairs : List Pair) → HasPairs page pairs → Gathers ranges pairs old new) → AreTaken ranges other old → AreTaken ranges other new
more_taken ranges page other old new (met, is) gathers taken pairs have n among =
    (gathers met is n).1 (inl (taken pairs have n among))

-- and of the page that was read
here_taken : (ranges : List TermRange) (page : TermPage) (old new : List ℕ)
    → ((pairs : List Pair) → HasPairs page pairs → Gathers ranges pairs old new) → AreTaken ranges page new
here_taken ranges page old new gathers pairs have n among = (gathers pairs have n).1 (inr among)

pub taken_step : (ranges : List TermRange) (pages now after : List TermPage) (page : ℕ) (next : Option ℕ) (old new : List ℕ)
    → now ≡ pages → after ≡ pages → IsInGrammar (term_page page now)
    → ((pairs : List Pair) → HasPairs (term_page page now) pairs → Gathers ranges pairs old new)
    → ((p : Pair) (other : ℕ) → is_in_some ranges p.term ≡ true → other < length after
    → pair_cmp (low_pair page after) (low_pair other after) ≡ Less → NotAfter (low_pair other after) p → IsAhead next p after)
    → page < length pages → AreApart pages → AreTakenTo ranges pages (Some page) old → AreTakenTo ranges pages next new
taken_step ranges pages now after page next old new e f met gathers reaches there apart was p k within of =
    ⊎_elim
    (λ (taken : AreTaken ranges (term_page k pages) old). inl (more_taken ranges (term_page page now) (term_page k pages) old new met gathers taken))
    (λ (ahead : (page < length pages) × NotAfter (low_pair page pages) p).
    ⊎_elim
    (λ (up : NotAfter (low_pair k pages) (low_pair page pages)).
    let same : page ≡ k =
    apart.apart page k there of.there
    (both_ways (low_pair page pages) (low_pair k pages) (of.greatest page there ahead.1) up)
    in
    inl
    (subst (λ (j : ℕ). AreTaken ranges (term_page j pages) new) same
    (subst (λ (ts : List TermPage). AreTaken ranges (term_page page ts) new) e (here_taken ranges (term_page page now) old new gathers))))
    (λ (less : pair_cmp (low_pair page pages) (low_pair k pages) ≡ Less).
    inr
    (subst
    (λ (ts : List TermPage). (q : Pair) (other : ℕ) → is_in_some ranges q.term ≡ true → other < length ts
    → pair_cmp (low_pair page ts) (low_pair other ts) ≡ Less → NotAfter (low_pair other ts) q → IsAhead next q ts)
    f reaches p k within of.there less of.below))
    (order_cases (low_pair k pages) (low_pair page pages)))
    (was p k within of)

-- numbers that are put in order are the same
pub all_in_order : (ranges : List TermRange) (pages : List TermPage) (found numbers : List ℕ)
    → ((n : ℕ) → has_number n numbers ≡ has_number n found) → HasAllThatStand ranges pages found → HasAllThatStand ranges pages numbers
all_in_order ranges pages found numbers same all apart number stands = same number ∙ all apart number stands

pub all_by_one : {V : Type 0} (result : Result V StoreFault) (numbers : V → List ℕ) (ranges : List TermRange) (range : TermRange)
    (pages : List TermPage) → ranges ≡ range ∷ []
    → IfOk result (λ found. HasAllThatStand ranges pages (numbers found)) → IfOk result (λ found. HasAllThatStand (range ∷ []) pages (numbers found))
all_by_one result numbers ranges range pages one all =
    subst (λ (rs : List TermRange). IfOk result (λ found. HasAllThatStand rs pages (numbers found))) one all
