-- Terms that are in one of several ranges.
use Rattle.std.proofs.Common.{◌≡◌, ◌↔◌, ℕ, zero, suc, List, [], ◌∷◌, arith, refl, sym, ap, ◌∙◌, subst, Bool, true, false, cond, ⊎_elim, Contains}
use Rattle.std.specs.Prelude.{IfOk, Result, Ok, Err}
use Rattle.ax_store.specs.declared.fault.StoreFault.{StoreFault}
use Rattle.ax_gap.specs.Gaps.{IsRisingList}
use Rattle.ax_delta.specs.Said.{has_number}
use Rattle.ax_delta.proofs.SamePair.{true_or_false}
use Rattle.ax_pairs.specs.PairSets.{PairSet}
use Rattle.ax_term.specs.Ranges.{is_in_range}
use Rattle.ax_term.specs.declared.range.TermRange.{TermRange}
use Rattle.ax_index.specs.Reading.{HasWithin}
use Rattle.ax_index.specs.Wanted.{AreNumbersIn, AreNumbersInSome, HasIn, HasInSome, is_in_some}

in_more : (range : TermRange) (ranges : List TermRange) (term : List ℕ) → is_in_some ranges term ≡ true → is_in_some (range ∷ ranges) term ≡ true
in_more range ranges term h =
    ⊎_elim
    (λ (s : is_in_range range term ≡ true). ap (λ (b : Bool). cond b true (is_in_some ranges term)) s)
    (λ (s : is_in_range range term ≡ false). ap (λ (b : Bool). cond b true (is_in_some ranges term)) s ∙ h)
    (true_or_false (is_in_range range term))

in_one : (ranges : List TermRange) (range : TermRange) (term : List ℕ) → Contains ranges range → is_in_range range term ≡ true → is_in_some ranges term ≡ true
in_one [] range term (k, l, e) h = absurd (omega (arith, l))
in_one (first ∷ ranges) range term (zero, l, e) h =
    ap (λ (b : Bool). cond b true (is_in_some ranges term)) (ap (λ (r : TermRange). is_in_range r term) e ∙ h)
in_one (first ∷ ranges) range term (suc k, l, e) h = in_more first ranges term (in_one ranges range term (k, omega (arith, l), e) h)

which : (ranges : List TermRange) (term : List ℕ) → is_in_some ranges term ≡ true
    → (range : TermRange) × Contains ranges range × (is_in_range range term ≡ true)
which [] term h = absurd (cc)
which (first ∷ ranges) term h =
    ⊎_elim
    (λ (s : is_in_range first term ≡ true). (first, (0, omega arith, refl), s))
    (λ (s : is_in_range first term ≡ false).
    let (range, (k, l, e), within) = which ranges term (sym (ap (λ (b : Bool). cond b true (is_in_some ranges term)) s) ∙ h) in
    (range, (suc k, omega (arith, l), e), within))
    (true_or_false (is_in_range first term))

pub numbers_in_some : (ranges : List TermRange) (set : PairSet) (found numbers : List ℕ) → IsRisingList numbers
    → ((n : ℕ) → has_number n numbers ≡ has_number n found) → ((n : ℕ) → (has_number n found ≡ true) ↔ HasWithin ranges set n)
    → AreNumbersInSome ranges set numbers
numbers_in_some ranges set found numbers rising same among = record {
  rising = rising;
  are = λ n. (λ h. there n ((among n).0 (sym (same n) ∙ h)), λ h. same n ∙ (among n).1 (back n h));
}
  where
    there : (n : ℕ) → HasWithin ranges set n → HasInSome ranges set n
    there n (term, within, member) = let (range, is, in_it) = which ranges term within in (range, is, (term, in_it, member))

    back : (n : ℕ) → HasInSome ranges set n → HasWithin ranges set n
    back n (range, is, (term, in_it, member)) = (term, in_one ranges range term is in_it, member)

-- the one range of a list of one
the_one : (first range : TermRange) → Contains (first ∷ []) range → first ≡ range
the_one first range (zero, l, e) = e
the_one first range (suc k, l, e) = absurd (omega (arith, l))

pub numbers_in_one : (ranges : List TermRange) (range : TermRange) (set : PairSet) (numbers : List ℕ) → ranges ≡ range ∷ []
    → AreNumbersInSome ranges set numbers → AreNumbersIn range set numbers
numbers_in_one ranges range set numbers one found = record {
  rising = found.rising;
  are = λ n. (
    λ h. there n (subst (λ (rs : List TermRange). HasInSome rs set n) one ((found.are n).0 h)),
    λ h. (found.are n).1 (subst (λ (rs : List TermRange). HasInSome rs set n) (sym one) (range, (0, omega arith, refl), h)),
  );
}
  where
    there : (n : ℕ) → HasInSome (range ∷ []) set n → HasIn range set n
    there n (other, is, h) = subst (λ (r : TermRange). HasIn r set n) (sym (the_one range other is)) h

pub in_one_by : {V : Type 0} (result : Result V StoreFault) (items : V → List ℕ) (ranges : List TermRange) (range : TermRange) (set : PairSet)
    → ranges ≡ range ∷ [] → IfOk result (λ numbers. AreNumbersInSome ranges set (items numbers))
    → IfOk result (λ numbers. AreNumbersIn range set (items numbers))
in_one_by (Ok numbers) items ranges range set one found = numbers_in_one ranges range set (items numbers) one found
in_one_by (Err fault) items ranges range set one found = tt
