-- The numbers that two lists share, and those of one union of ranges.
use Rattle.std.proofs.Common.{◌≡◌, ◌↔◌, ℕ, ◌<◌, zero, suc, List, [], ◌∷◌, length, arith, refl, sym, ap, ◌∙◌, subst, Bool}
use Rattle.std.proofs.Common.{true, cond, ⊎_elim, Contains, Some, None}
use Rattle.std.specs.List.Sorted.{IsStrictlyIncreasing}
use Rattle.std.proofs.lemmas.Bool.{cases_eq, eq-eqb, false≢true, ne_eqb}
use Rattle.std.proofs.lemmas.List.Elements.{All-contains, All-contains_itself}
use Rattle.ax_gap.specs.Gaps.{IsRisingList}
use Rattle.ax_delta.specs.Said.{has_number}
use Rattle.ax_pages.specs.Contents.{TermPage}
use Rattle.ax_pairs.specs.PairSets.{PairSet}
use Rattle.ax_term.specs.declared.range.TermRange.{TermRange}
use Rattle.ax_index.specs.Grammar.{AreInGrammar, HasAllThatStand}
use Rattle.ax_index.specs.Wanted.{AreNumbersInSome}
use Rattle.ax_candidates.specs.Meeting.{AreMet, AreShared, IsAsked}

has_more : (n m : ℕ) (list : List ℕ) → has_number n list ≡ true → has_number n (m ∷ list) ≡ true
has_more n m list h = ⊎_elim (λ (e : m ≡ n). rw (eq-eqb m n e) refl) (λ (e : m ≡ n → ⊥). rw (ne_eqb m n e) h) (cases_eq m n)

pub has_from_contains : (xs : List ℕ) (n : ℕ) → Contains xs n → has_number n xs ≡ true
has_from_contains [] n (k, l, e) = absurd (omega (arith, l))
has_from_contains (x ∷ xs) n (zero, l, e) = rw (eq-eqb x n e) refl
has_from_contains (x ∷ xs) n (suc k, l, e) = has_more n x xs (has_from_contains xs n (k, omega (arith, l), e))

pub contains_from_has : (xs : List ℕ) (n : ℕ) → has_number n xs ≡ true → Contains xs n
contains_from_has [] n h = absurd (false≢true h)
contains_from_has (x ∷ xs) n h =
    ⊎_elim {C = Contains (x ∷ xs) n}
    (λ (e : x ≡ n). (0, omega arith, e))
    (λ (e : x ≡ n → ⊥).
    let (k, l, at) = contains_from_has xs n (sym (ap (λ (b : Bool). cond b true (has_number n xs)) (ne_eqb x n e)) ∙ h) in
    (suc k, omega (arith, l), at))
    (cases_eq x n)

shared : (both left right : List ℕ) → ((n : ℕ) → Contains both n ↔ (Contains left n × Contains right n)) → AreShared left right both
shared both left right members = record {
  are = λ n. (
    λ h.
        let p = (members n).0 (contains_from_has both n h) in
        (has_from_contains left n p.0, has_from_contains right n p.1),
    λ h. has_from_contains both n ((members n).1 (contains_from_has left n h.0, contains_from_has right n h.1)),
  );
}

-- the same of lists that are those
pub shared_of : (both own left found right others : List ℕ) → own ≡ both → left ≡ found → right ≡ others
    → ((n : ℕ) → Contains both n ↔ (Contains left n × Contains right n)) → AreShared found others own
shared_of both own left found right others made first second members =
    subst (AreShared found others) (sym made)
    (subst (λ (xs : List ℕ). AreShared xs others both) first
    (subst (λ (ys : List ℕ). AreShared left ys both) second (shared both left right members)))

pub shared_rise : (both left right : List ℕ) → IsStrictlyIncreasing both → ((n : ℕ) → Contains both n ↔ (Contains left n × Contains right n))
    → IsRisingList left → IsRisingList both
shared_rise both left right up members rising = record {
  rising = up;
  numbers = λ k d l. All-contains (λ n. n < 4294967296) left _ rising.numbers ((members _).0 (All-contains_itself both k d l)).0;
}

-- ---- the numbers of one union

pub first_met : (ranges : List TermRange) (set : PairSet) (numbers : List ℕ) → AreNumbersInSome ranges set numbers → AreMet None ranges set numbers
first_met ranges set numbers found = record { are = λ n. (λ h. (tt, (found.are n).0 h), λ h. (found.are n).1 h.1) }

pub both_met : (found others both : List ℕ) (ranges : List TermRange) (set : PairSet) → AreShared found others both → AreNumbersInSome ranges set others
    → AreMet (Some found) ranges set both
both_met found others both ranges set shared numbers = record {
  are = λ n. (
    λ h. let (old, other) = (shared.are n).0 h in (old, (numbers.are n).0 other),
    λ h. (shared.are n).1 (h.0, (numbers.are n).1 h.1),
  );
}

pub none_met : (found : List ℕ) (ranges : List TermRange) (set : PairSet) → length found ≡ 0 → AreMet (Some found) ranges set found
none_met [] ranges set none = record { are = λ n. (λ h. absurd (false≢true h), λ h. h.0) }
none_met (m ∷ found) ranges set none = absurd (omega arith)

-- ---- what was asked of the index

pub first_asked : (ranges : List TermRange) (pages : List TermPage) (numbers : List ℕ) → AreInGrammar ranges pages → HasAllThatStand ranges pages numbers
    → IsAsked None ranges pages numbers
first_asked ranges pages numbers met all = record { met = met; all = λ apart number left stands. all apart number stands }

pub both_asked : (found others both : List ℕ) (ranges : List TermRange) (pages : List TermPage) → AreShared found others both
    → AreInGrammar ranges pages → HasAllThatStand ranges pages others → IsAsked (Some found) ranges pages both
both_asked found others both ranges pages shared met all = record {
  met = met;
  all = λ apart number left stands. (shared.are number).1 (left, all apart number stands);
}
