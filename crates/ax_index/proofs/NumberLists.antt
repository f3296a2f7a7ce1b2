-- Numbers that are sorted and of which repeats are dropped; and the numbers of pairs whose terms are in one of some ranges.
use Rattle.std.proofs.Common.{◌≡◌, ℕ, zero, suc, List, [], ◌∷◌, ◌++◌, arith, refl, ap, ◌∙◌, sym, Bool, true, false, cond, ◌⊎◌, inl, inr, ⊎_elim, Contains}
use Rattle.std.proofs.lemmas.Bool.{eq-eqb, ne_eqb, cases_eq}
use Rattle.ax_pair.specs.declared.pair.Pair.{Pair}
use Rattle.ax_delta.specs.Said.{has, has_number, is_same}
use Rattle.ax_delta.proofs.SamePair.{the_pair, true_or_false, same_from, same_to}
use Rattle.ax_term.specs.declared.range.TermRange.{TermRange}
use Rattle.ax_index.specs.Reading.{Gathers, HasAmong, numbers_of}
use Rattle.ax_index.specs.Wanted.{is_in_some}

has_more : (n m : ℕ) (list : List ℕ) → has_number n list ≡ true → has_number n (m ∷ list) ≡ true
has_more n m list h = ⊎_elim (λ (e : m ≡ n). rw (eq-eqb m n e) refl) (λ (e : m ≡ n → ⊥). rw (ne_eqb m n e) h) (cases_eq m n)

has_from_contains : (xs : List ℕ) (n : ℕ) → Contains xs n → has_number n xs ≡ true
has_from_contains [] n (k, l, e) = absurd (omega arith)
has_from_contains (x ∷ xs) n (zero, l, e) = rw (eq-eqb x n e) refl
has_from_contains (x ∷ xs) n (suc k, l, e) = has_more n x xs (has_from_contains xs n (k, omega arith, e))

contains_from_has : (xs : List ℕ) (n : ℕ) → has_number n xs ≡ true → Contains xs n
contains_from_has [] n h = absurd (cc)
contains_from_has (x ∷ xs) n h =
    ⊎_elim
    (λ (e : x ≡ n). (0, omega arith, e))
    (λ (e : x ≡ n → ⊥).
    let rest : has_number n xs ≡ true = sym (ap (λ (b : Bool). cond b true (has_number n xs)) (ne_eqb x n e)) ∙ h in
    let (k, l, at) = contains_from_has xs n rest in (suc k, omega arith, at))
    (cases_eq x n)

both_ways : (a b : Bool) → (a ≡ true → b ≡ true) → (b ≡ true → a ≡ true) → a ≡ b
both_ways true b h k = sym (h refl)
both_ways false true h k = k refl
both_ways false false h k = refl

pub same_numbers : (xs ys : List ℕ) → ((n : ℕ) → Contains xs n → Contains ys n) → ((n : ℕ) → Contains ys n → Contains xs n)
    → (n : ℕ) → has_number n ys ≡ has_number n xs
same_numbers xs ys there back n =
    both_ways (has_number n ys) (has_number n xs)
    (λ h. has_from_contains xs n (back n (contains_from_has ys n h)))
    (λ h. has_from_contains ys n (there n (contains_from_has xs n h)))

-- ---- numbers of pairs

among_more : (ranges : List TermRange) (q : Pair) (pairs : List Pair) (n : ℕ) → HasAmong ranges pairs n → HasAmong ranges (q ∷ pairs) n
among_more ranges q pairs n (term, within, is) = (
  term,
  within,
  ⊎_elim
      (λ (s : is_same q (the_pair term n) ≡ true). ap (λ (b : Bool). cond b true (has (the_pair term n) pairs)) s)
      (λ (s : is_same q (the_pair term n) ≡ false). ap (λ (b : Bool). cond b true (has (the_pair term n) pairs)) s ∙ is)
      (true_or_false (is_same q (the_pair term n))),
)

among_first : (ranges : List TermRange) (q : Pair) (pairs : List Pair) (n : ℕ) → is_in_some ranges q.term ≡ true → q.number ≡ n → HasAmong ranges (q ∷ pairs) n
among_first ranges q pairs n within e =
    (q.term, within, ap (λ (b : Bool). cond b true (has (the_pair q.term n) pairs)) (same_to q (the_pair q.term n) (ap (the_pair q.term) e)))

among : (ranges : List TermRange) (pairs : List Pair) (n : ℕ) → has_number n (numbers_of ranges pairs) ≡ true → HasAmong ranges pairs n
among ranges [] n h = absurd (cc)
among ranges (q ∷ pairs) n h =
    ⊎_elim
    (λ (s : is_in_some ranges q.term ≡ true).
    let here : has_number n (q.number ∷ numbers_of ranges pairs) ≡ true =
    sym (ap (λ (b : Bool). has_number n (cond b (q.number ∷ numbers_of ranges pairs) (numbers_of ranges pairs))) s) ∙ h
    in
    ⊎_elim
    (λ (e : q.number ≡ n). among_first ranges q pairs n s e)
    (λ (e : q.number ≡ n → ⊥).
    among_more ranges q pairs n
    (among ranges pairs n (sym (ap (λ (b : Bool). cond b true (has_number n (numbers_of ranges pairs))) (ne_eqb q.number n e)) ∙ here)))
    (cases_eq q.number n))
    (λ (s : is_in_some ranges q.term ≡ false).
    among_more ranges q pairs n
    (among ranges pairs n (sym (ap (λ (b : Bool). has_number n (cond b (q.number ∷ numbers_of ranges pairs) (numbers_of ranges pairs))) s) ∙ h)))
    (true_or_false (is_in_some ranges q.term))

-- a number among the rest is among all
number_more : (ranges : List TermRange) (q : Pair) (pairs : List Pair) (n : ℕ) → has_number n (numbers_of ranges pairs) ≡ true
    → has_number n (numbers_of ranges (q ∷ pairs)) ≡ true
number_more ranges q pairs n h =
    ⊎_elim
    (λ (s : is_in_some ranges q.term ≡ true).
    ap (λ (b : Bool). has_number n (cond b (q.number ∷ numbers_of ranges pairs) (numbers_of ranges pairs))) s
    ∙ has_more n q.number (numbers_of ranges pairs) h)
    (λ (s : is_in_some ranges q.term ≡ false).
    ap (λ (b : Bool). has_number n (cond b (q.number ∷ numbers_of ranges pairs) (numbers_of ranges pairs))) s ∙ h)
    (true_or_false (is_in_some ranges q.term))

number_first : (ranges : List TermRange) (q : Pair) (pairs : List Pair) (term : List ℕ) (n : ℕ) → is_in_some ranges term ≡ true → q ≡ the_pair term n
    → has_number n (numbers_of ranges (q ∷ pairs)) ≡ true
number_first ranges q pairs term n within e =
    let here : is_in_some ranges q.term ≡ true = ap (λ (x : Pair). is_in_some ranges x.term) e ∙ within in
    ap (λ (b : Bool). has_number n (cond b (q.number ∷ numbers_of ranges pairs) (numbers_of ranges pairs))) here
    ∙ ap (λ (b : Bool). cond b true (has_number n (numbers_of ranges pairs))) (eq-eqb q.number n (ap (λ (x : Pair). x.number) e))

from_among : (ranges : List TermRange) (pairs : List Pair) (term : List ℕ) (n : ℕ) → is_in_some ranges term ≡ true → has (the_pair term n) pairs ≡ true
    → has_number n (numbers_of ranges pairs) ≡ true
from_among ranges [] term n within h = absurd (cc)
from_among ranges (q ∷ pairs) term n within h =
    ⊎_elim
    (λ (s : is_same q (the_pair term n) ≡ true). number_first ranges q pairs term n within (same_from q (the_pair term n) s))
    (λ (s : is_same q (the_pair term n) ≡ false).
    number_more ranges q pairs n
    (from_among ranges pairs term n within (sym (ap (λ (b : Bool). cond b true (has (the_pair term n) pairs)) s) ∙ h)))
    (true_or_false (is_same q (the_pair term n)))

-- ---- one list behind another

behind : (xs ys : List ℕ) (n : ℕ) → has_number n ys ≡ true → has_number n (xs ++ ys) ≡ true
behind [] ys n h = h
behind (x ∷ xs) ys n h = has_more n x (xs ++ ys) (behind xs ys n h)

before : (xs ys : List ℕ) (n : ℕ) → has_number n xs ≡ true → has_number n (xs ++ ys) ≡ true
before [] ys n h = absurd (cc)
before (x ∷ xs) ys n h =
    ⊎_elim
    (λ (e : x ≡ n). ap (λ (b : Bool). cond b true (has_number n (xs ++ ys))) (eq-eqb x n e))
    (λ (e : x ≡ n → ⊥).
    has_more n x (xs ++ ys) (before xs ys n (sym (ap (λ (b : Bool). cond b true (has_number n xs)) (ne_eqb x n e)) ∙ h)))
    (cases_eq x n)

either : (xs ys : List ℕ) (n : ℕ) → has_number n (xs ++ ys) ≡ true → (has_number n xs ≡ true) ⊎ (has_number n ys ≡ true)
either [] ys n h = inr h
either (x ∷ xs) ys n h =
    ⊎_elim
    (λ (e : x ≡ n). inl (ap (λ (b : Bool). cond b true (has_number n xs)) (eq-eqb x n e)))
    (λ (e : x ≡ n → ⊥).
    ⊎_elim
    (λ (there : has_number n xs ≡ true). inl (has_more n x xs there))
    (λ (there : has_number n ys ≡ true). inr there)
    (either xs ys n (sym (ap (λ (b : Bool). cond b true (has_number n (xs ++ ys))) (ne_eqb x n e)) ∙ h)))
    (cases_eq x n)

-- the numbers of pairs that have the same pairs of the range as others
pub gathers : (ranges : List TermRange) (pairs kept : List Pair) (old new : List ℕ)
    → ((p : Pair) → is_in_some ranges p.term ≡ true → has p kept ≡ has p pairs) → new ≡ old ++ numbers_of ranges kept → Gathers ranges pairs old new
gathers ranges pairs kept old new same e n = (
  λ h.
      ⊎_elim
      (λ (there : has_number n old ≡ true). inl there)
      (λ (there : has_number n (numbers_of ranges kept) ≡ true).
      let (term, within, is) = among ranges kept n there in inr (term, within, sym (same (the_pair term n) within) ∙ is))
      (either old (numbers_of ranges kept) n (ap (has_number n) (sym e) ∙ h)),
  λ h.
      ap (has_number n) e
      ∙ ⊎_elim
      (λ (there : has_number n old ≡ true). before old (numbers_of ranges kept) n there)
      (λ (there : HasAmong ranges pairs n).
      behind old (numbers_of ranges kept) n (from_among ranges kept there.0 n there.1 (same (the_pair there.0 n) there.1 ∙ there.2)))
      h,
)
