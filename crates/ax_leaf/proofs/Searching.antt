-- A search among postings whose terms rise.
use Rattle.std.proofs.Common.{◌≡◌, ℕ, ◌+◌, ◌-◌, ◌<◌, List, [], ◌∷◌, length, arith, refl, ap, ◌∙◌, sym, subst, false, Some, None, nat_eq}
use Rattle.std.proofs.lemmas.Slice.Eq.{bytes_eq-Decides}
use Rattle.std.proofs.lemmas.Bool.{false_from_ne_true}
use Rattle.std.proofs.lemmas.Cmp.{nat_list_cmp_total, tied_itself}
use Rattle.std.specs.Str.{bytes_eq}
use Rattle.std.specs.FinMap.{slice_cmp-IsAntisymmetric, nat_cmp-IsAntisymmetric}
use Rattle.std.specs.Cmp.Lexicographic.{slice_cmp}
use Rattle.std.specs.Ordering.{nat_cmp, ordering_reverse}
use Rattle.std.specs.declared.cmp.Ordering.{Ordering}
use Rattle.std.specs.declared.cmp.Ordering.TheVariants.{Less, Equal, Greater}
use Rattle.ax_leaf.specs.Lookup.{numbers_under, IsUpTo, IsMet}
use Rattle.ax_leaf.specs.Pairs.{Posting}
use Rattle.ax_leaf.specs.Payload.{common, list_after, IsPosting, AreAfter, ArePostings}
use Rattle.ax_leaf.specs.ShortTerm.{whole_term}
use Rattle.ax_leaf.specs.TermList.{IsTermList, Begins}
use Rattle.ax_leaf.proofs.Listed.{IsFirst, first_of, HasNoFirst, fits_first}
use Rattle.std.proofs.lemmas.List.Sums.{common_prefix_len-le}

-- ---- looking up

pub less_not_greater : (o : Ordering) → o ≡ Less → o ≡ Greater → ⊥
less_not_greater o h k = cc

pub apart_terms : (a b : List ℕ) → slice_cmp nat_cmp a b ≡ Less → a ≡ b → ⊥
apart_terms a b h e =
    let equal : slice_cmp nat_cmp a b ≡ Equal = ap (slice_cmp nat_cmp a) (sym e) ∙ tied_itself nat_list_cmp_total a in cc

pub other_term : (a b : List ℕ) → (a ≡ b → ⊥) → bytes_eq a b ≡ false
other_term a b h = false_from_ne_true (bytes_eq a b) (λ e. h ((bytes_eq-Decides a b).0 e))

pub passed : (term : List ℕ) (posting : Posting) (postings : List Posting) → (posting.term ≡ term → ⊥)
    → numbers_under term (posting ∷ postings) ≡ numbers_under term postings
passed term posting postings h = rw (other_term posting.term term h) refl

pub hit : (term : List ℕ) (posting : Posting) (postings : List Posting) → posting.term ≡ term → numbers_under term (posting ∷ postings) ≡ Some posting.numbers
hit term posting postings h = rw ((bytes_eq-Decides posting.term term).1 h) refl

-- all terms are behind the one that is sought
none_behind : (term last : List ℕ) (postings : List Posting) → slice_cmp nat_cmp term last ≡ Less → AreAfter last postings → numbers_under term postings ≡ None
none_behind term last [] h after = refl
none_behind term last (posting ∷ postings) h after =
    let less : slice_cmp nat_cmp term posting.term ≡ Less = nat_list_cmp_total.trans term last posting.term h after.0 in
    passed term posting postings (λ e. apart_terms term posting.term less (sym e)) ∙ none_behind term posting.term postings less after.2

-- ---- the search

-- postings that begin where `last` or later
abbrev pub AreFrom : List ℕ → List Posting → Type 0
AreFrom last [] = Unit {0}
AreFrom last (posting ∷ postings) = IsUpTo last posting.term × IsPosting posting × AreAfter posting.term postings

from_after : (last : List ℕ) (postings : List Posting) → AreAfter last postings → AreFrom last postings
from_after last [] h = tt
from_after last (posting ∷ postings) h = (less_not_greater (slice_cmp nat_cmp last posting.term) h.0, h.1, h.2)

from_first : (postings : List Posting) → ArePostings postings → AreFrom [] postings
from_first [] h = tt
from_first (posting ∷ postings) h = (first_is_first posting.term, h.0, h.1)
  where
    first_is_first : (term : List ℕ) → IsUpTo [] term
    first_is_first [] e = cc
    first_is_first (b ∷ term) e = cc

-- the postings that are left decide, and none of those passed was the one
pub record IsSearch (term rest : List ℕ) (many matched : ℕ) (postings : List Posting) : Type 0 where
  pub last : List ℕ
  pub left : List Posting
  pub spelled : rest ≡ list_after last left
  pub counted : length left ≡ many
  pub are : AreFrom last left
  pub matches : common last term ≡ matched
  pub below : IsUpTo last term
  pub same : numbers_under term left ≡ numbers_under term postings

pub search_begins : (term list : List ℕ) (count : ℕ) (postings : List Posting) → IsTermList count list postings → IsSearch term list count 0 postings
search_begins term list count postings is = record {
  last = [];
  left = postings;
  spelled = is.spelled;
  counted = is.counted;
  are = from_first postings is.are;
  matches = refl;
  below = is_first term;
  same = refl;
}
  where
    is_first : (t : List ℕ) → IsUpTo [] t
    is_first [] e = cc
    is_first (b ∷ t) e = cc

pub search_ends : (term rest : List ℕ) (many matched : ℕ) (postings : List Posting) → IsSearch term rest many matched postings → many ≡ 0
    → None ≡ numbers_under term postings
search_ends term rest many matched postings was none = ends was.left was.counted was.same
  where
    ends : (left : List Posting) → length left ≡ many → numbers_under term left ≡ numbers_under term postings → None ≡ numbers_under term postings
    ends [] counted same = same
    ends (posting ∷ left) counted same = absurd (omega arith)

-- what is known of the posting that comes next
pub record IsNext (term last rest : List ℕ) (many matched shared : ℕ) (part ns after : List ℕ) (postings : List Posting) : Type 0 where
  pub posting : Posting
  pub left : List Posting
  pub first : IsFirst last shared part ns after posting left
  pub is : IsPosting posting
  pub more : AreAfter posting.term left
  pub counted : length left + 1 ≡ many
  pub same : numbers_under term (posting ∷ left) ≡ numbers_under term postings
  pub met : IsMet last term matched shared part

met_from : (last term : List ℕ) (matched shared : ℕ) (part ns after : List ℕ) (posting : Posting) (left : List Posting)
    → IsFirst last shared part ns after posting left
    → IsUpTo last posting.term → common last term ≡ matched → IsUpTo last term → IsMet last term matched shared part
met_from last term matched shared part ns after posting left first up matches below =
    let within = common_prefix_len-le nat_eq last posting.term in
    record {
      within = omega (arith, first.shares, within.0);
      longest = ap (common last) first.is ∙ sym first.shares;
      rises = subst (IsUpTo last) (sym first.is) up;
      matches = matches;
      below = below;
    }

pub next_is : (term rest : List ℕ) (many matched shared : ℕ) (part ns after : List ℕ) (postings : List Posting)
    → (was : IsSearch term rest many matched postings) → 0 < many
    → Begins rest shared part ns after → IsNext term was.last rest many matched shared part ns after postings
next_is term rest many matched shared part ns after postings was some begins = comes was.left was.spelled was.counted was.are was.same
  where
    comes : (left : List Posting) → rest ≡ list_after was.last left → length left ≡ many → AreFrom was.last left
        → numbers_under term left ≡ numbers_under term postings
        → IsNext term was.last rest many matched shared part ns after postings
    comes [] spelled counted are same = absurd (omega arith)
    comes (posting ∷ left) spelled counted are same =
        let first : IsFirst was.last shared part ns after posting left = first_of was.last rest shared part ns after posting left begins are.1 spelled in
        record {
          posting = posting;
          left = left;
          first = first;
          is = are.1;
          more = are.2;
          counted = omega arith;
          same = same;
          met = met_from was.last term matched shared part ns after posting left first are.0 was.matches was.below;
        }

module _ (term last rest : List ℕ) (many matched shared : ℕ) (part ns after : List ℕ) (postings : List Posting)
    (next : IsNext term last rest many matched shared part ns after postings) where
  pub found_here : slice_cmp nat_cmp (whole_term last shared part) term ≡ Equal → numbers_under term postings ≡ Some ns
  found_here e =
      let same : next.posting.term ≡ term = sym next.first.is ∙ slice_cmp-IsAntisymmetric nat_cmp-IsAntisymmetric (whole_term last shared part) term e in
      sym next.same ∙ hit term next.posting next.left same ∙ ap (λ (ms : List ℕ). Some ms) (sym next.first.has)

  pub is_behind : slice_cmp nat_cmp term next.posting.term ≡ Less → None ≡ numbers_under term postings
  is_behind less =
      sym (none_behind term next.posting.term next.left less next.more)
      ∙ sym (passed term next.posting next.left (λ e. apart_terms term next.posting.term less (sym e))) ∙ next.same

  pub search_goes_on : (now : ℕ) → slice_cmp nat_cmp (whole_term last shared part) term ≡ Less → now ≡ common (whole_term last shared part) term
      → IsSearch term after (many - 1) now postings
  search_goes_on now less e =
      let before : slice_cmp nat_cmp next.posting.term term ≡ Less = ap (λ (t : List ℕ). slice_cmp nat_cmp t term) (sym next.first.is) ∙ less in
      record {
        last = next.posting.term;
        left = next.left;
        spelled = next.first.leaves;
        counted = omega (arith, next.counted);
        are = from_after next.posting.term next.left next.more;
        matches = ap (λ (t : List ℕ). common t term) (sym next.first.is) ∙ sym e;
        below = less_not_greater (slice_cmp nat_cmp next.posting.term term) before;
        same = sym (passed term next.posting next.left (apart_terms next.posting.term term before)) ∙ next.same;
      }

pub search_has_first : (term rest : List ℕ) (many matched : ℕ) (postings : List Posting) → IsSearch term rest many matched postings → 0 < many
    → HasNoFirst rest → ⊥
search_has_first term rest many matched postings was some none = has was.left was.spelled was.counted was.are
  where
    has : (left : List Posting) → rest ≡ list_after was.last left → length left ≡ many → AreFrom was.last left → ⊥
    has [] spelled counted are = omega arith
    has (posting ∷ left) spelled counted are = fits_first was.last rest posting left are.1 spelled none

-- a term that compares so is behind the one that is sought
pub behind_here : (term last rest : List ℕ) (many matched shared : ℕ) (part ns after : List ℕ) (postings : List Posting)
    → (next : IsNext term last rest many matched shared part ns after postings)
    → slice_cmp nat_cmp (whole_term last shared part) term ≡ Greater → None ≡ numbers_under term postings
behind_here term last rest many matched shared part ns after postings next greater =
    is_behind term last rest many matched shared part ns after postings next
    (nat_list_cmp_total.antisymm term next.posting.term
    ∙ ap (λ (t : List ℕ). ordering_reverse (slice_cmp nat_cmp t term)) (sym next.first.is)
    ∙ ap ordering_reverse greater)
