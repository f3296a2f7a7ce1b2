-- From page to page in the order of their low pairs: the first that may have a term of a range, the next one, and
-- how many are left.
use Rattle.std.proofs.Common.{◌≡◌, ℕ, zero, suc, ◌<◌, ◌≤◌, List, [], ◌∷◌, length, arith, refl, sym}
use Rattle.std.proofs.Common.{ap, ◌∙◌, subst, Bool, true, false, ◌&&◌, ⊎_elim, Option, Some, None}
use Rattle.std.proofs.lemmas.Bool.{cases_lt}
use Rattle.std.proofs.lemmas.Cmp.{nat_list_cmp_total, tied_itself}
use Rattle.std.specs.Prelude.{if◌then◌else◌}
use Rattle.std.specs.Cmp.{nat_cmp_is}
use Rattle.std.specs.Cmp.Lexicographic.{slice_cmp}
use Rattle.std.specs.FinMap.{slice_cmp-IsAntisymmetric, nat_cmp-IsAntisymmetric}
use Rattle.std.specs.Ordering.{nat_cmp, is_le, is_lt, ordering_then, ordering_reverse}
use Rattle.std.specs.declared.cmp.Ordering.{Ordering}
use Rattle.std.specs.declared.cmp.Ordering.TheVariants.{Less, Equal, Greater}
use Rattle.ax_pair.specs.declared.pair.Pair.{Pair}
use Rattle.ax_pair.specs.Order.{pair_cmp}
use Rattle.ax_pair.proofs.PairOrder.{pair_cmp_total}
use Rattle.ax_delta.proofs.SamePair.{the_pair}
use Rattle.ax_pages.specs.Contents.{TermPage, low_of}
use Rattle.ax_pages.specs.TermPages.{IsPageOf, IsNextPage, low_pair}
use Rattle.ax_pairs.proofs.PairOrder.{NotAfter, less_then, order_cases, not_after_then}
use Rattle.ax_term.specs.Ranges.{is_in_range}
use Rattle.ax_term.specs.declared.range.TermRange.{TermRange}
use Rattle.ax_index.specs.Reading.{IsAhead, IsTermUpTo, StartsUpTo, has_terms_from, pages_after}

-- ---- terms of a range

both_true : (a b : Bool) → (a && b) ≡ true → (a ≡ true) × (b ≡ true)
both_true true b h = (refl, h)
both_true false b h = absurd (cc)

less_of : (o : Ordering) → is_lt o ≡ true → o ≡ Less
less_of Less h = refl
less_of Equal h = absurd (cc)
less_of Greater h = absurd (cc)

below_end : (range : TermRange) (term : List ℕ) → is_in_range range term ≡ true → slice_cmp nat_cmp term range.below ≡ Less
below_end range term h =
    less_of (slice_cmp nat_cmp term range.below)
    (both_true (is_le (slice_cmp nat_cmp range.from term)) (is_lt (slice_cmp nat_cmp term range.below)) h).1

from_start : (range : TermRange) (term : List ℕ) → is_in_range range term ≡ true → is_le (slice_cmp nat_cmp range.from term) ≡ true
from_start range term h = (both_true (is_le (slice_cmp nat_cmp range.from term)) (is_lt (slice_cmp nat_cmp term range.below)) h).0

-- not after, then before
up_to : (a b c : List ℕ) → (slice_cmp nat_cmp a b ≡ Greater → ⊥) → slice_cmp nat_cmp b c ≡ Less → slice_cmp nat_cmp a c ≡ Less
up_to a b c h less = by_order (slice_cmp nat_cmp a b) refl
  where
    by_order : (o : Ordering) → slice_cmp nat_cmp a b ≡ o → slice_cmp nat_cmp a c ≡ Less
    by_order Less e = nat_list_cmp_total.trans a b c e less
    by_order Equal e = ap (λ (x : List ℕ). slice_cmp nat_cmp x c) (slice_cmp-IsAntisymmetric nat_cmp-IsAntisymmetric a b e) ∙ less
    by_order Greater e = absurd (h e)

le_apart : (o : Ordering) → is_le o ≡ true → o ≡ Greater → ⊥
le_apart Less h e = cc
le_apart Equal h e = cc
le_apart Greater h e = cc

pub term_then : (a b c : List ℕ) → IsTermUpTo a b → IsTermUpTo b c → IsTermUpTo a c
term_then a b c h k = by_order (slice_cmp nat_cmp b c) refl
  where
    by_order : (o : Ordering) → slice_cmp nat_cmp b c ≡ o → IsTermUpTo a c
    by_order Less e = λ greater. let less : slice_cmp nat_cmp a c ≡ Less = up_to a b c h e in cc
    by_order Equal e = subst (IsTermUpTo a) (slice_cmp-IsAntisymmetric nat_cmp-IsAntisymmetric b c e) h
    by_order Greater e = absurd (k e)

pub term_itself : (a : List ℕ) → IsTermUpTo a a
term_itself a greater = let equal : slice_cmp nat_cmp a a ≡ Equal = tied_itself nat_list_cmp_total a in cc

-- of two terms the first is not after the second, or the second not after the first
pub term_by_test : (a b : List ℕ) (test : Bool) → test ≡ is_le (slice_cmp nat_cmp a b) → test ≡ true → IsTermUpTo a b
term_by_test a b test e is = le_apart (slice_cmp nat_cmp a b) (sym e ∙ is)

greater_of : (o : Ordering) → is_le o ≡ false → o ≡ Greater
greater_of Less h = absurd (cc)
greater_of Equal h = absurd (cc)
greater_of Greater h = refl

before_by_test : (a b : List ℕ) (test : Bool) → test ≡ is_le (slice_cmp nat_cmp a b) → test ≡ false → slice_cmp nat_cmp b a ≡ Less
before_by_test a b test e is =
    nat_list_cmp_total.antisymm b a ∙ ap ordering_reverse (greater_of (slice_cmp nat_cmp a b) (sym e ∙ is))

pub other_by_test : (a b : List ℕ) (test : Bool) → test ≡ is_le (slice_cmp nat_cmp a b) → test ≡ false → IsTermUpTo b a
other_by_test a b test e is greater =
    let less : slice_cmp nat_cmp b a ≡ Less = before_by_test a b test e is in cc

-- ---- where ranges begin

pub within_from : (range : TermRange) (term : List ℕ) → is_in_range range term ≡ true → IsTermUpTo range.from term
within_from range term h = le_apart (slice_cmp nat_cmp range.from term) (from_start range term h)

both_so : (a b : Bool) → a ≡ true → b ≡ true → (a && b) ≡ true
both_so true b e f = f
both_so false b e f = absurd (cc)

-- a range that has a term from another on is one of those that are looked at
pub has_terms : (range : TermRange) (term other : List ℕ) → is_in_range range other ≡ true → IsTermUpTo term other → has_terms_from range term ≡ true
has_terms range term other h up =
    both_so (is_lt (slice_cmp nat_cmp term range.below)) (is_lt (slice_cmp nat_cmp range.from range.below))
    (ap is_lt (up_to term other range.below up (below_end range other h)))
    (ap is_lt (up_to range.from other range.below (within_from range other h) (below_end range other h)))

-- a start that is not after another one is not after what that one is not after
pub starts_then : (lesser start term : List ℕ) → IsTermUpTo lesser start → IsTermUpTo start term → StartsUpTo (Some lesser) term
starts_then lesser start term up from = term_then lesser start term up from

pub nothing_first : (term : List ℕ) → IsTermUpTo [] term
nothing_first [] e = cc
nothing_first (byte ∷ term) e = cc

-- ---- the first page

zero_first : (n : ℕ) → nat_cmp 0 n ≡ Greater → ⊥
zero_first n greater =
    ⊎_elim
    (λ (some : 0 < n). let less : nat_cmp 0 n ≡ Less = sym (nat_cmp_is 0 n Less some) in cc)
    (λ (none : n ≤ 0). let same : 0 ≡ n = omega arith in let equal : nat_cmp 0 n ≡ Equal = sym (nat_cmp_is 0 n Equal same) in cc)
    (cases_lt 0 n)

then_apart : (o r : Ordering) → (o ≡ Greater → ⊥) → (r ≡ Greater → ⊥) → ordering_then o r ≡ Greater → ⊥
then_apart Less r h k e = cc
then_apart Equal r h k e = k e
then_apart Greater r h k e = h refl

from_first : (start : List ℕ) (p : Pair) → IsTermUpTo start p.term → NotAfter (the_pair start 0) p
from_first start p up = then_apart (slice_cmp nat_cmp start p.term) (nat_cmp 0 p.number) up (zero_first p.number)

-- the page of the least start
pub start_ahead : (start : List ℕ) (page : ℕ) (pages : List TermPage) → IsPageOf (the_pair start 0) page pages
    → (p : Pair) → IsTermUpTo start p.term → IsAhead (Some page) p pages
start_ahead start page pages is p up =
    (is.there, not_after_then (low_pair page pages) (the_pair start 0) p is.below (from_first start p up))

-- ---- the next page

next_not_after : (page next other : ℕ) (pages : List TermPage) (p : Pair) → IsNextPage page next pages → other < length pages
    → pair_cmp (low_pair page pages) (low_pair other pages) ≡ Less → NotAfter (low_pair other pages) p → NotAfter (low_pair next pages) p
next_not_after page next other pages p is h less not_after =
    not_after_then (low_pair next pages) (low_pair other pages) p
    (⊎_elim
    (λ (up : NotAfter (low_pair next pages) (low_pair other pages)). up)
    (λ (back : pair_cmp (low_pair other pages) (low_pair next pages) ≡ Less). absurd (is.least other h less back))
    (order_cases (low_pair next pages) (low_pair other pages)))
    not_after

pub next_ahead : (page next : ℕ) (pages : List TermPage) → IsNextPage page next pages → (p : Pair) (other : ℕ) → other < length pages
    → pair_cmp (low_pair page pages) (low_pair other pages) ≡ Less → NotAfter (low_pair other pages) p → IsAhead (Some next) p pages
next_ahead page next pages is p other h less not_after = (is.there, next_not_after page next other pages p is h less not_after)

term_not_after : (a b : Pair) → NotAfter a b → slice_cmp nat_cmp a.term b.term ≡ Greater → ⊥
term_not_after a b h e = h (ap (λ (o : Ordering). ordering_then o (nat_cmp a.number b.number)) e)

-- a pair that is ahead has a term that is not before the first of the next page
pub ahead_term : (page next other : ℕ) (pages : List TermPage) (term : List ℕ) (p : Pair) → IsNextPage page next pages → term ≡ (low_pair next pages).term
    → other < length pages → pair_cmp (low_pair page pages) (low_pair other pages) ≡ Less → NotAfter (low_pair other pages) p → IsTermUpTo term p.term
ahead_term page next other pages term p is e h less not_after =
    subst (λ (t : List ℕ). IsTermUpTo t p.term) (sym e)
    (term_not_after (low_pair next pages) p (next_not_after page next other pages p is h less not_after))

less_first : (a b : Pair) → slice_cmp nat_cmp a.term b.term ≡ Less → NotAfter a b
less_first a b less greater =
    let before : pair_cmp a b ≡ Less = ap (λ (o : Ordering). ordering_then o (nat_cmp a.number b.number)) less in cc

-- ---- how many pages are left

abbrev one_if : Ordering → ℕ
one_if o = if is_lt o then 1 else 0

one_at_most : (o : Ordering) → one_if o ≤ 1
one_at_most Less = omega arith
one_at_most Equal = omega arith
one_at_most Greater = omega arith

one_fewer : (a b c : Pair) → pair_cmp a b ≡ Less → one_if (pair_cmp b c) ≤ one_if (pair_cmp a c)
one_fewer a b c less = by_order (pair_cmp b c) refl
  where
    by_order : (o : Ordering) → pair_cmp b c ≡ o → one_if o ≤ one_if (pair_cmp a c)
    by_order Less e = let more : one_if (pair_cmp a c) ≡ 1 = ap one_if (pair_cmp_total.trans a b c less e) in omega arith
    by_order Equal e = omega arith
    by_order Greater e = omega arith

no_more_after : (a b : Pair) (pages : List TermPage) → pair_cmp a b ≡ Less → pages_after b pages ≤ pages_after a pages
no_more_after a b [] less = omega arith
no_more_after a b (page ∷ pages) less = omega (arith, one_fewer a b (low_of page) less, no_more_after a b pages less)

fewer_from : (a b : Pair) (pages : List TermPage) (k : ℕ) → k < length pages → b ≡ low_pair k pages → pair_cmp a b ≡ Less
    → pages_after b pages < pages_after a pages
fewer_from a b [] k h e less = absurd (omega arith)
fewer_from a b (page ∷ pages) zero h e less =
    let none : one_if (pair_cmp b (low_of page)) ≡ 0 = ap one_if (ap (pair_cmp b) (sym e) ∙ tied_itself pair_cmp_total b) in
    let one : one_if (pair_cmp a (low_of page)) ≡ 1 = ap one_if (ap (pair_cmp a) (sym e) ∙ less) in
    omega (arith, none, one, no_more_after a b pages less)
fewer_from a b (page ∷ pages) (suc k) h e less =
    omega (arith, one_fewer a b (low_of page) less, fewer_from a b pages k (omega arith) e less)

pub fewer_behind : (page next : ℕ) (pages : List TermPage) → IsNextPage page next pages
    → pages_after (low_pair next pages) pages < pages_after (low_pair page pages) pages
fewer_behind page next pages is = fewer_from (low_pair page pages) (low_pair next pages) pages next is.there refl is.after

-- the same of a page that is not before the next one: that of a term behind its first
pub fewer_past : (page next at : ℕ) (pages : List TermPage) (term start : List ℕ) (test : Bool) → IsNextPage page next pages → term ≡ (low_pair next pages).term
    → test ≡ is_le (slice_cmp nat_cmp start term) → test ≡ false → IsPageOf (the_pair start 0) at pages
    → pages_after (low_pair at pages) pages < pages_after (low_pair page pages) pages
fewer_past page next at pages term start test is low e out of =
    let before : slice_cmp nat_cmp (low_pair next pages).term start ≡ Less =
    ap (λ (t : List ℕ). slice_cmp nat_cmp t start) (sym low) ∙ before_by_test start term test e out
    in
    fewer_from (low_pair page pages) (low_pair at pages) pages at of.there refl
    (less_then (low_pair page pages) (low_pair next pages) (low_pair at pages) is.after
    (of.greatest next is.there (less_first (low_pair next pages) (the_pair start 0) before)))

-- how often a walk goes on that comes to this page next
abbrev pub steps_left : Option ℕ → List TermPage → ℕ
steps_left None pages = 0
steps_left (Some page) pages = suc (pages_after (low_pair page pages) pages)
