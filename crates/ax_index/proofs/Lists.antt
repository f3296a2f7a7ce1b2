-- Lists of pairs, of changes and of parts, one behind another.
use Rattle.std.proofs.Common.{◌≡◌, ℕ, ◌+◌, List, [], ◌∷◌, ◌++◌, arith, refl, sym, ap, ◌∙◌, Bool, true, false, cond, ⊎_elim, Some}
use Rattle.std.specs.declared.cmp.Ordering.TheVariants.{Less}
use Rattle.ax_frame.specs.Part.{PartValue}
use Rattle.ax_pages.specs.AfterPart.{kind_of}
use Rattle.ax_pair.specs.declared.pair.Pair.{Pair}
use Rattle.ax_pair.specs.Order.{pair_cmp, Rise, RiseAfter}
use Rattle.ax_delta.specs.declared.change.Change.{Change}
use Rattle.ax_delta.specs.Changes.{changed_pairs}
use Rattle.ax_delta.specs.Said.{is_same, has}
use Rattle.ax_delta.proofs.SamePair.{true_or_false, same_from, same_itself, less_apart, later, rises_alone}
use Rattle.ax_pairs.specs.TermParts.{bases_by_kind, bases_below}
use Rattle.ax_pairs.proofs.PairOrder.{NotAfter, same_not_after}
use Rattle.ax_store.specs.Kept.{deltas_by_kind, deltas_of}

-- ---- parts

pub deltas_more : (n : ℕ) (first second : List PartValue) → deltas_of n (first ++ second) ≡ deltas_of n first + deltas_of n second
deltas_more n [] second = omega arith
deltas_more n (part ∷ first) second =
    let rest : deltas_of n (first ++ second) ≡ deltas_of n first + deltas_of n second = deltas_more n first second in
    added (deltas_by_kind (kind_of part.kind) part.key n) (deltas_of n (first ++ second)) (deltas_of n first) (deltas_of n second) rest
  where
    added : (x y a b : ℕ) → y ≡ a + b → x + y ≡ x + a + b
    added x y a b e = omega (arith, e)

pub bases_more : (count : ℕ) (first second : List PartValue) → bases_below count (first ++ second) ≡ bases_below count first + bases_below count second
bases_more count [] second = omega arith
bases_more count (part ∷ first) second =
    let rest : bases_below count (first ++ second) ≡ bases_below count first + bases_below count second = bases_more count first second in
    added (bases_by_kind (kind_of part.kind) part.key count) (bases_below count (first ++ second)) (bases_below count first) (bases_below count second) rest
  where
    added : (x y a b : ℕ) → y ≡ a + b → x + y ≡ x + a + b
    added x y a b e = omega (arith, e)

-- ---- changes

pub changed_more : (first second : List Change) → changed_pairs (first ++ second) ≡ changed_pairs first ++ changed_pairs second
changed_more [] second = refl
changed_more (change ∷ first) second = ap (λ (pairs : List Pair). change.pair ∷ pairs) (changed_more first second)

-- ---- pairs

pub has_more : (p : Pair) (first second : List Pair) → has p (first ++ second) ≡ cond (has p first) true (has p second)
has_more p [] second = refl
has_more p (q ∷ first) second = by_test (is_same q p) (has_more p first second)
  where
    by_test : (b : Bool) → has p (first ++ second) ≡ cond (has p first) true (has p second)
        → cond b true (has p (first ++ second)) ≡ cond (cond b true (has p first)) true (has p second)
    by_test true e = refl
    by_test false e = e

pub in_first : (p : Pair) (first second : List Pair) → has p first ≡ true → has p (first ++ second) ≡ true
in_first p first second h = has_more p first second ∙ ap (λ (b : Bool). cond b true (has p second)) h

pub in_second : (p : Pair) (first second : List Pair) → has p second ≡ true → has p (first ++ second) ≡ true
in_second p first second h = has_more p first second ∙ by_test (has p first)
  where
    by_test : (b : Bool) → cond b true (has p second) ≡ true
    by_test true = refl
    by_test false = h

pub not_in_first : (p : Pair) (first second : List Pair) → has p first ≡ false → has p (first ++ second) ≡ has p second
not_in_first p first second h = has_more p first second ∙ ap (λ (b : Bool). cond b true (has p second)) h

pub first_of_list : (p : Pair) (pairs : List Pair) → has p (p ∷ pairs) ≡ true
first_of_list p pairs = ap (λ (b : Bool). cond b true (has p pairs)) (same_itself p)

pub behind_first : (q p : Pair) (pairs : List Pair) → RiseAfter q pairs → has p pairs ≡ true → pair_cmp q p ≡ Less
behind_first q p [] rise h = absurd (cc)
behind_first q p (x ∷ pairs) rise h =
    ⊎_elim
    (λ (s : is_same x p ≡ true). ap (pair_cmp q) (sym (same_from x p s)) ∙ rise.0)
    (λ (s : is_same x p ≡ false).
    let rest : has p pairs ≡ true = sym (ap (λ (b : Bool). cond b true (has p pairs)) s) ∙ h in
    behind_first q p pairs (later (Some q) x pairs rise.0 rise.1) rest)
    (true_or_false (is_same x p))

rises_after_front : (q : Pair) (first second : List Pair) → RiseAfter q (first ++ second) → RiseAfter q first
rises_after_front q [] second rise = tt
rises_after_front q (x ∷ first) second rise = (rise.0, rises_after_front x first second rise.1)

pub rises_front : (first second : List Pair) → Rise (first ++ second) → Rise first
rises_front [] second rise = tt
rises_front (x ∷ first) second rise = rises_after_front x first second rise

pub rises_back : (first second : List Pair) → Rise (first ++ second) → Rise second
rises_back [] second rise = rise
rises_back (x ∷ first) second rise = rises_back first second (rises_alone x (first ++ second) rise)

-- a pair of the first list is before each of the second
pub one_before : (p q : Pair) (first second : List Pair) → Rise (first ++ second) → has p first ≡ true → has q second ≡ true → pair_cmp p q ≡ Less
one_before p q [] second rise h k = absurd (cc)
one_before p q (x ∷ first) second rise h k =
    ⊎_elim
    (λ (s : is_same x p ≡ true).
    ap (λ (y : Pair). pair_cmp y q) (sym (same_from x p s)) ∙ behind_first x q (first ++ second) rise (in_second q first second k))
    (λ (s : is_same x p ≡ false).
    one_before p q first second (rises_alone x (first ++ second) rise) (sym (ap (λ (b : Bool). cond b true (has p first)) s) ∙ h) k)
    (true_or_false (is_same x p))

-- and so none is in both
pub not_in_both : (p : Pair) (first second : List Pair) → Rise (first ++ second) → has p first ≡ true → has p second ≡ false
not_in_both p first second rise h =
    ⊎_elim
    (λ (k : has p second ≡ true). absurd (less_apart p p (one_before p p first second rise h k) refl))
    (λ (k : has p second ≡ false). k)
    (true_or_false (has p second))

pub not_in_other : (p : Pair) (first second : List Pair) → Rise (first ++ second) → has p second ≡ true → has p first ≡ false
not_in_other p first second rise h =
    ⊎_elim
    (λ (k : has p first ≡ true). absurd (less_apart p p (one_before p p first second rise k h) refl))
    (λ (k : has p first ≡ false). k)
    (true_or_false (has p first))

-- none of a rising list is before its first
pub first_least : (q p : Pair) (pairs : List Pair) → RiseAfter q pairs → has p (q ∷ pairs) ≡ true → NotAfter q p
first_least q p pairs rise h greater =
    ⊎_elim
    (λ (s : is_same q p ≡ true). less_greater (same_from q p s))
    (λ (s : is_same q p ≡ false).
    let less : pair_cmp q p ≡ Less = behind_first q p pairs rise (sym (ap (λ (b : Bool). cond b true (has p pairs)) s) ∙ h) in absurd (cc))
    (true_or_false (is_same q p))
  where
    less_greater : q ≡ p → ⊥
    less_greater same = same_not_after q p same greater
