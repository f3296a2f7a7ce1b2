-- The term changes of changes are written one after another.
use Rattle.std.proofs.Common.{◌≡◌, ℕ, ◌+◌, ◌<◌, List, [], ◌∷◌, ◌++◌, length, arith, refl, ap, ◌∙◌, sym, true, false, subst}
use Rattle.std.proofs.lemmas.List.{append_assoc, append-nil}
use Rattle.std.specs.Str.{bytes_eq}
use Rattle.ax_gap.specs.Gaps.{IsRisingList, gaps}
use Rattle.ax_leaf.specs.Payload.{term_after}
use Rattle.ax_delta.specs.declared.change.Change.{Change}
use Rattle.ax_delta.specs.Changes.{TermChange, with_added, with_dropped, term_changes_from, term_changes_of}
use Rattle.ax_delta.specs.Payload.{IsTermChange, AreGood, list_after}
use Rattle.ax_delta.proofs.Grouping.{AreFit, IsFit}
use Rattle.ax_delta.proofs.Listed.{change_with}

-- what is written, and the term changes that are left, make the whole list
pub record IsUnderWay (old out last : List ℕ) (changes whole : List TermChange) (count : ℕ) : Type 0 where
  pub written : out ++ list_after last changes ≡ old ++ list_after [] whole
  pub counted : count + length changes ≡ length whole
  pub fit : AreFit changes
  pub good : AreGood changes → AreGood whole

pub start : (p : Change) (changes rest : List Change) → changes ≡ p ∷ rest
    → term_changes_of changes ≡ term_changes_from p.pair.term (with_added [] p) (with_dropped [] p) rest
unfolding term_changes_of
start p changes rest e = ap term_changes_of e

pub same_step : (term adds drops : List ℕ) (p : Change) (changes rest : List Change) → changes ≡ p ∷ rest → bytes_eq p.pair.term term ≡ true
    → term_changes_from term adds drops changes ≡ term_changes_from term (with_added adds p) (with_dropped drops p) rest
unfolding term_changes_from
same_step term adds drops p changes rest e h = ap (term_changes_from term adds drops) e ∙ rw h refl

pub other_step : (term adds drops : List ℕ) (p : Change) (changes rest : List Change) → changes ≡ p ∷ rest → bytes_eq p.pair.term term ≡ false
    → term_changes_from term adds drops changes ≡ change_with term adds drops ∷ term_changes_from p.pair.term (with_added [] p) (with_dropped [] p) rest
unfolding term_changes_from
other_step term adds drops p changes rest e h = ap (term_changes_from term adds drops) e ∙ rw h refl

pub last_step : (term adds drops : List ℕ) (changes : List Change) → changes ≡ [] → term_changes_from term adds drops changes ≡ change_with term adds drops ∷ []
unfolding term_changes_from
last_step term adds drops changes e = ap (term_changes_from term adds drops) e

pub with_change : (old out new last term adds drops : List ℕ) (changes whole : List TermChange) (count : ℕ)
    → new ≡ out ++ term_after last term ++ gaps adds ++ gaps drops
    → IsTermChange (change_with term adds drops)
    → IsUnderWay old out last (change_with term adds drops ∷ changes) whole count
    → IsUnderWay old new term changes whole (count + 1)
unfolding list_after
with_change old out new last term adds drops changes whole count e is was = record {
  written = ap (λ (bs : List ℕ). bs ++ list_after term changes) e
      ∙ append_assoc (out ++ term_after last term ++ gaps adds) (gaps drops) (list_after term changes)
      ∙ append_assoc (out ++ term_after last term) (gaps adds) (gaps drops ++ list_after term changes)
      ∙ append_assoc out (term_after last term) (gaps adds ++ (gaps drops ++ list_after term changes))
      ∙ again
      ∙ was.written;
  counted = omega (arith, was.counted);
  fit = was.fit.1;
  good = λ more. was.good (is, more);
}
  where
    again : out ++ (term_after last term ++ (gaps adds ++ (gaps drops ++ list_after term changes))) ≡ out
        ++ list_after last (change_with term adds drops ∷ changes)
    again =
        ap (λ (bs : List ℕ). out ++ bs)
        (sym (append_assoc (term_after last term ++ gaps adds) (gaps drops) (list_after term changes)
        ∙ append_assoc (term_after last term) (gaps adds) (gaps drops ++ list_after term changes)))

pub at_end : (old out last : List ℕ) (whole : List TermChange) (count : ℕ) → IsUnderWay old out last [] whole count → out ≡ old ++ list_after [] whole
unfolding list_after
at_end old out last whole count was = sym (append-nil out) ∙ was.written

pub nothing : (changes : List Change) → changes ≡ [] → term_changes_of changes ≡ []
unfolding term_changes_of
nothing changes e = ap term_changes_of e

pub nothing_written : (old : List ℕ) (changes : List Change) → changes ≡ [] → old ≡ old ++ list_after [] (term_changes_of changes)
unfolding list_after
nothing_written old changes e = sym (append-nil old) ∙ ap (λ es. old ++ list_after [] es) (sym (nothing changes e))

-- the same, with the parts under other names
pub from_parts : (term other adds more drops less : List ℕ) (rest : List Change) → term ≡ other → adds ≡ more → drops ≡ less
    → term_changes_from term adds drops rest ≡ term_changes_from other more less rest
from_parts term other adds more drops less rest e f g = rw (e, f, g) refl

pub fit_first : (term adds drops : List ℕ) (changes others : List TermChange) → changes ≡ change_with term adds drops ∷ others → AreFit changes
    → IsFit (change_with term adds drops)
fit_first term adds drops changes others e h = (subst AreFit e h).0

pub change_from : (term adds drops slice other : List ℕ) → slice ≡ adds → other ≡ drops → length term < 4294967296 → IsRisingList slice → IsRisingList other
    → IsFit (change_with term adds drops) → IsTermChange (change_with term adds drops)
change_from term adds drops slice other e f short rising falling fit = record {
  short = short;
  some = fit.some;
  additions = subst IsRisingList e rising;
  removals = subst IsRisingList f falling;
  disjoint = fit.disjoint;
}
