-- A search among term changes whose terms rise.
use Rattle.std.proofs.Common.{◌≡◌, ℕ, ◌+◌, ◌-◌, ◌<◌, List, [], ◌∷◌, length, arith, refl, ap, ◌∙◌, sym, subst, None, nat_eq}
use Rattle.std.proofs.lemmas.Slice.Eq.{bytes_eq-Decides}
use Rattle.std.proofs.lemmas.Cmp.{nat_list_cmp_total}
use Rattle.std.specs.FinMap.{slice_cmp-IsAntisymmetric, nat_cmp-IsAntisymmetric}
use Rattle.std.specs.Cmp.Lexicographic.{slice_cmp}
use Rattle.std.specs.Ordering.{nat_cmp, ordering_reverse}
use Rattle.std.specs.declared.cmp.Ordering.TheVariants.{Less, Equal, Greater}
use Rattle.std.proofs.lemmas.List.Sums.{common_prefix_len-le}
use Rattle.ax_pair.specs.declared.pair.Pair.{Pair}
use Rattle.ax_leaf.specs.Lookup.{IsUpTo, IsMet}
use Rattle.ax_leaf.specs.Payload.{common}
use Rattle.ax_leaf.specs.ShortTerm.{whole_term}
use Rattle.ax_leaf.proofs.Searching.{apart_terms, other_term, less_not_greater}
use Rattle.ax_delta.specs.Changes.{TermChange}
use Rattle.ax_delta.specs.ChangeList.{IsChangeList, Begins}
use Rattle.ax_delta.specs.Payload.{list_after, IsTermChange, AreAfter, AreTermChanges}
use Rattle.ax_delta.specs.Said.{said_in, said_of}
use Rattle.ax_delta.proofs.Listed.{IsFirst, first_of, HasNoFirst, fits_first}

-- ---- looking up

abbrev pub the_pair : List ℕ → ℕ → Pair
the_pair term number = record { term = term; number = number }

pub passed : (term : List ℕ) (number : ℕ) (change : TermChange) (changes : List TermChange) → (change.term ≡ term → ⊥)
    → said_of (the_pair term number) (change ∷ changes) ≡ said_of (the_pair term number) changes
passed term number change changes h = rw (other_term change.term term h) refl

pub hit : (term : List ℕ) (number : ℕ) (change : TermChange) (changes : List TermChange) → change.term ≡ term
    → said_of (the_pair term number) (change ∷ changes) ≡ said_in number change.added change.dropped
hit term number change changes h = rw ((bytes_eq-Decides change.term term).1 h) refl

-- all terms are behind the one that is sought
pub none_behind : (term last : List ℕ) (number : ℕ) (changes : List TermChange) → slice_cmp nat_cmp term last ≡ Less → AreAfter last changes
    → said_of (the_pair term number) changes ≡ None
none_behind term last number [] h after = refl
none_behind term last number (change ∷ changes) h after =
    let less : slice_cmp nat_cmp term change.term ≡ Less = nat_list_cmp_total.trans term last change.term h after.0 in
    passed term number change changes (λ e. apart_terms term change.term less (sym e)) ∙ none_behind term change.term number changes less after.2

-- ---- the search

-- term changes that begin where `last` or later
abbrev pub AreFrom : List ℕ → List TermChange → Type 0
AreFrom last [] = Unit {0}
AreFrom last (change ∷ changes) = IsUpTo last change.term × IsTermChange change × AreAfter change.term changes

from_after : (last : List ℕ) (changes : List TermChange) → AreAfter last changes → AreFrom last changes
from_after last [] h = tt
from_after last (change ∷ changes) h = (less_not_greater (slice_cmp nat_cmp last change.term) h.0, h.1, h.2)

from_first : (changes : List TermChange) → AreTermChanges changes → AreFrom [] changes
from_first [] h = tt
from_first (change ∷ changes) h = (first_is_first change.term, h.0, h.1)
  where
    first_is_first : (term : List ℕ) → IsUpTo [] term
    first_is_first [] e = cc
    first_is_first (b ∷ term) e = cc

-- the term changes that are left decide, and none of those passed was the one
pub record IsSearch (term rest : List ℕ) (number many matched : ℕ) (changes : List TermChange) : Type 0 where
  pub last : List ℕ
  pub left : List TermChange
  pub spelled : rest ≡ list_after last left
  pub counted : length left ≡ many
  pub are : AreFrom last left
  pub matches : common last term ≡ matched
  pub below : IsUpTo last term
  pub same : said_of (the_pair term number) left ≡ said_of (the_pair term number) changes

pub search_begins : (term list : List ℕ) (number count : ℕ) (changes : List TermChange) → IsChangeList count list changes
    → IsSearch term list number count 0 changes
search_begins term list number count changes is = record {
  last = [];
  left = changes;
  spelled = is.spelled;
  counted = is.counted;
  are = from_first changes is.are;
  matches = refl;
  below = is_first term;
  same = refl;
}
  where
    is_first : (t : List ℕ) → IsUpTo [] t
    is_first [] e = cc
    is_first (b ∷ t) e = cc

pub search_ends : (term rest : List ℕ) (number many matched : ℕ) (changes : List TermChange) → IsSearch term rest number many matched changes → many ≡ 0
    → None ≡ said_of (the_pair term number) changes
search_ends term rest number many matched changes was none = ends was.left was.counted was.same
  where
    ends : (left : List TermChange) → length left ≡ many → said_of (the_pair term number) left ≡ said_of (the_pair term number) changes
        → None ≡ said_of (the_pair term number) changes
    ends [] counted same = same
    ends (change ∷ left) counted same = absurd (omega arith)

-- what is known of the term change that comes next
pub record IsNext (term last rest : List ℕ) (number many matched shared : ℕ) (part adds drops after : List ℕ) (changes : List TermChange) : Type 0 where
  pub change : TermChange
  pub left : List TermChange
  pub first : IsFirst last shared part adds drops after change left
  pub is : IsTermChange change
  pub more : AreAfter change.term left
  pub counted : length left + 1 ≡ many
  pub same : said_of (the_pair term number) (change ∷ left) ≡ said_of (the_pair term number) changes
  pub met : IsMet last term matched shared part

met_from : (last term : List ℕ) (matched shared : ℕ) (part adds drops after : List ℕ) (change : TermChange) (left : List TermChange)
    → IsFirst last shared part adds drops after change left
    → IsUpTo last change.term → common last term ≡ matched → IsUpTo last term → IsMet last term matched shared part
met_from last term matched shared part adds drops after change left first up matches below =
    let within = common_prefix_len-le nat_eq last change.term in
    record {
      within = omega (arith, first.shares, within.0);
      longest = ap (common last) first.is ∙ sym first.shares;
      rises = subst (IsUpTo last) (sym first.is) up;
      matches = matches;
      below = below;
    }

pub next_is : (term rest : List ℕ) (number many matched shared : ℕ) (part adds drops after : List ℕ) (changes : List TermChange)
    → (was : IsSearch term rest number many matched changes) → 0 < many
    → Begins rest shared part adds drops after → IsNext term was.last rest number many matched shared part adds drops after changes
next_is term rest number many matched shared part adds drops after changes was some begins = comes was.left was.spelled was.counted was.are was.same
  where
    comes : (left : List TermChange) → rest ≡ list_after was.last left → length left ≡ many → AreFrom was.last left
        → said_of (the_pair term number) left ≡ said_of (the_pair term number) changes
        → IsNext term was.last rest number many matched shared part adds drops after changes
    comes [] spelled counted are same = absurd (omega arith)
    comes (change ∷ left) spelled counted are same =
        let first : IsFirst was.last shared part adds drops after change left =
        first_of was.last rest shared part adds drops after change left begins are.1 spelled in
        record {
          change = change;
          left = left;
          first = first;
          is = are.1;
          more = are.2;
          counted = omega arith;
          same = same;
          met = met_from was.last term matched shared part adds drops after change left first are.0 was.matches was.below;
        }

module _ (term last rest : List ℕ) (number many matched shared : ℕ) (part adds drops after : List ℕ) (changes : List TermChange)
    (next : IsNext term last rest number many matched shared part adds drops after changes) where
  pub found_here : slice_cmp nat_cmp (whole_term last shared part) term ≡ Equal → said_of (the_pair term number) changes ≡ said_in number adds drops
  found_here e =
      let same : next.change.term ≡ term = sym next.first.is ∙ slice_cmp-IsAntisymmetric nat_cmp-IsAntisymmetric (whole_term last shared part) term e in
      sym next.same ∙ hit term number next.change next.left same
      ∙ ap (λ (ns : List ℕ). said_in number ns next.change.dropped) (sym next.first.has_added)
      ∙ ap (said_in number adds) (sym next.first.has_dropped)

  pub is_behind : slice_cmp nat_cmp term next.change.term ≡ Less → None ≡ said_of (the_pair term number) changes
  is_behind less =
      sym (none_behind term next.change.term number next.left less next.more)
      ∙ sym (passed term number next.change next.left (λ e. apart_terms term next.change.term less (sym e))) ∙ next.same

  pub search_goes_on : (now : ℕ) → slice_cmp nat_cmp (whole_term last shared part) term ≡ Less → now ≡ common (whole_term last shared part) term
      → IsSearch term after number (many - 1) now changes
  search_goes_on now less e =
      let before : slice_cmp nat_cmp next.change.term term ≡ Less = ap (λ (t : List ℕ). slice_cmp nat_cmp t term) (sym next.first.is) ∙ less in
      record {
        last = next.change.term;
        left = next.left;
        spelled = next.first.leaves;
        counted = omega (arith, next.counted);
        are = from_after next.change.term next.left next.more;
        matches = ap (λ (t : List ℕ). common t term) (sym next.first.is) ∙ sym e;
        below = less_not_greater (slice_cmp nat_cmp next.change.term term) before;
        same = sym (passed term number next.change next.left (apart_terms next.change.term term before)) ∙ next.same;
      }

pub search_has_first : (term rest : List ℕ) (number many matched : ℕ) (changes : List TermChange) → IsSearch term rest number many matched changes → 0 < many
    → HasNoFirst rest → ⊥
search_has_first term rest number many matched changes was some none = has was.left was.spelled was.counted was.are
  where
    has : (left : List TermChange) → rest ≡ list_after was.last left → length left ≡ many → AreFrom was.last left → ⊥
    has [] spelled counted are = omega arith
    has (change ∷ left) spelled counted are = fits_first was.last rest change left are.1 spelled none

-- a term that compares so is behind the one that is sought
pub behind_here : (term last rest : List ℕ) (number many matched shared : ℕ) (part adds drops after : List ℕ) (changes : List TermChange)
    → (next : IsNext term last rest number many matched shared part adds drops after changes)
    → slice_cmp nat_cmp (whole_term last shared part) term ≡ Greater → None ≡ said_of (the_pair term number) changes
behind_here term last rest number many matched shared part adds drops after changes next greater =
    is_behind term last rest number many matched shared part adds drops after changes next
    (nat_list_cmp_total.antisymm term next.change.term
    ∙ ap (λ (t : List ℕ). ordering_reverse (slice_cmp nat_cmp t term)) (sym next.first.is)
    ∙ ap ordering_reverse greater)
