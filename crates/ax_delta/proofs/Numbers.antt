-- Numbers of lists that rise: whether one is there, and whether two lists share one.
use Rattle.std.proofs.Common.{◌≡◌, ◌↔◌, ℕ, ◌+◌, ◌<◌, ◌≤◌, List, [], ◌∷◌, drop, arith, refl, ap, ◌∙◌, sym, IsTrue, true, false, nat_eq, ⊎_elim, Some}
use Rattle.std.proofs.Common.{None, slice_get}
use Rattle.std.proofs.lemmas.Bool.{eq-eqb, ne_eqb, cases_eq, false≢true, false_from_ne_true}
use Rattle.ax_gap.specs.Gaps.{IsRisingList}
use Rattle.ax_gap.proofs.Rising.{RisesFrom, rises}
use Rattle.ax_delta.specs.Said.{has_number}
use Rattle.ax_delta.specs.Payload.{AreDisjoint}

pub lower : (a b : ℕ) (list : List ℕ) → a ≤ b → RisesFrom b list → RisesFrom a list
lower a b [] l h = tt
lower a b (n ∷ list) l h = (omega (arith, h.0), h.1, h.2)

-- a number below all of a list is not in it
pub below_all : (n least : ℕ) (list : List ℕ) → RisesFrom least list → n < least → has_number n list ≡ false
below_all n least [] h l = refl
below_all n least (m ∷ list) h l =
    rw (ne_eqb m n (λ e. omega (arith, h.0))) (below_all n (m + 1) list h.2 (omega (arith, h.0)))

pub on_from : (list : List ℕ) → RisesFrom 0 list → RisesFrom 0 (drop 1 list)
on_from [] h = tt
on_from (n ∷ list) h = lower 0 (n + 1) list (omega arith) h.2

-- ---- a list, number by number

pub here : (n found : ℕ) (list : List ℕ) → RisesFrom 0 list → Some found ≡ slice_get list 0 → n ≤ found → nat_eq found n ≡ has_number n list
here n found [] h e l = absurd (cc)
here n found (m ∷ list) h e l =
    let same : found ≡ m = cc in
    ⊎_elim
    (λ (k : m ≡ n). rw (same, eq-eqb m n k) refl)
    (λ (k : m ≡ n → ⊥). rw (same, ne_eqb m n k) (sym (below_all n (m + 1) list h.2 (omega arith))))
    (cases_eq m n)

pub passed_one : (n found : ℕ) (list : List ℕ) → Some found ≡ slice_get list 0 → found < n → has_number n (drop 1 list) ≡ has_number n list
passed_one n found [] e l = absurd (cc)
passed_one n found (m ∷ list) e l =
    let same : found ≡ m = cc in
    rw (ne_eqb m n (λ k. omega arith)) refl

pub none_there : (n : ℕ) (list : List ℕ) → None ≡ slice_get list 0 → has_number n list ≡ false
none_there n [] e = refl
none_there n (m ∷ list) e = absurd (cc)

-- ---- two lists

pub disjoint_end : (xs ys : List ℕ) → None ≡ slice_get xs 0 → AreDisjoint xs ys
unfolding AreDisjoint
disjoint_end [] ys e n h = absurd (cc)
disjoint_end (x ∷ xs) ys e n h = absurd (cc)

pub disjoint_other_end : (xs ys : List ℕ) → None ≡ slice_get ys 0 → AreDisjoint xs ys
unfolding AreDisjoint
disjoint_other_end xs [] e n h = refl
disjoint_other_end xs (y ∷ ys) e n h = absurd (cc)

pub one_in_both : (xs ys : List ℕ) (n m : ℕ) → Some n ≡ slice_get xs 0 → Some m ≡ slice_get ys 0 → n ≡ m → AreDisjoint xs ys → ⊥
unfolding AreDisjoint
one_in_both [] ys n m e f same h = cc
one_in_both (x ∷ xs) [] n m e f same h = cc
one_in_both (x ∷ xs) (y ∷ ys) n m e f same h =
    let left : n ≡ x = cc in
    let right : m ≡ y = cc in
    let first : has_number n (x ∷ xs) ≡ true = rw (eq-eqb x n (sym left)) refl in
    let second : has_number n (y ∷ ys) ≡ true = rw (eq-eqb y n (sym right ∙ sym same)) refl in
    let not : has_number n (y ∷ ys) ≡ false = h n first in
    absurd (cc)

has_more : (n m : ℕ) (list : List ℕ) → has_number n list ≡ true → has_number n (m ∷ list) ≡ true
has_more n m list h = ⊎_elim (λ (e : m ≡ n). rw (eq-eqb m n e) refl) (λ (e : m ≡ n → ⊥). rw (ne_eqb m n e) h) (cases_eq m n)

-- the first of one list is below all of the other
drop_first : (x : ℕ) (xs ys : List ℕ) → has_number x ys ≡ false → AreDisjoint xs ys ↔ AreDisjoint (x ∷ xs) ys
unfolding AreDisjoint
drop_first x xs ys none = (
  λ h n k.
      ⊎_elim
      (λ (e : x ≡ n). ap (λ (i : ℕ). has_number i ys) (sym e) ∙ none)
      (λ (e : x ≡ n → ⊥). let same : has_number n (x ∷ xs) ≡ has_number n xs = rw (ne_eqb x n e) refl in h n (sym same ∙ k))
      (cases_eq x n),
  λ h n k. h n (has_more n x xs k),
)

drop_second : (y : ℕ) (xs ys : List ℕ) → has_number y xs ≡ false → AreDisjoint xs ys ↔ AreDisjoint xs (y ∷ ys)
unfolding AreDisjoint
drop_second y xs ys none = (
  λ h n k.
      ⊎_elim
      (λ (e : y ≡ n). let same : has_number n xs ≡ false = ap (λ (i : ℕ). has_number i xs) (sym e) ∙ none in absurd (cc))
      (λ (e : y ≡ n → ⊥). let same : has_number n (y ∷ ys) ≡ has_number n ys = rw (ne_eqb y n e) refl in same ∙ h n k)
      (cases_eq y n),
  λ h n k.
      let there : has_number n (y ∷ ys) ≡ false = h n k in
      ⊎_elim
      (λ (e : y ≡ n). let here : has_number n (y ∷ ys) ≡ true = rw (eq-eqb y n e) refl in absurd (cc))
      (λ (e : y ≡ n → ⊥). let same : has_number n (y ∷ ys) ≡ has_number n ys = rw (ne_eqb y n e) refl in sym same ∙ there)
      (cases_eq y n),
)

pub disjoint_first : (xs ys : List ℕ) (n m : ℕ) → Some n ≡ slice_get xs 0 → Some m ≡ slice_get ys 0 → n < m → RisesFrom 0 ys
    → AreDisjoint (drop 1 xs) ys ↔ AreDisjoint xs ys
disjoint_first [] ys n m e f l h = absurd (cc)
disjoint_first (x ∷ xs) [] n m e f l h = absurd (cc)
disjoint_first (x ∷ xs) (y ∷ ys) n m e f l h =
    let left : n ≡ x = cc in
    let right : m ≡ y = cc in
    drop_first x xs (y ∷ ys) (below_all x y (y ∷ ys) (omega arith, h.1, h.2) (omega arith))

pub disjoint_second : (xs ys : List ℕ) (n m : ℕ) → Some n ≡ slice_get xs 0 → Some m ≡ slice_get ys 0 → m < n → RisesFrom 0 xs
    → AreDisjoint xs (drop 1 ys) ↔ AreDisjoint xs ys
disjoint_second [] ys n m e f l h = absurd (cc)
disjoint_second (x ∷ xs) [] n m e f l h = absurd (cc)
disjoint_second (x ∷ xs) (y ∷ ys) n m e f l h =
    let left : n ≡ x = cc in
    let right : m ≡ y = cc in
    drop_second y (x ∷ xs) ys (below_all y x (x ∷ xs) (omega arith, h.1, h.2) (omega arith))

-- two lists that are left share a number where the whole ones do
pub record AreLeft (xs ys whole other : List ℕ) : Type 0 where
  pub first : RisesFrom 0 xs
  pub second : RisesFrom 0 ys
  pub same : AreDisjoint xs ys ↔ AreDisjoint whole other

pub left_at_first : (xs ys whole other : List ℕ) → xs ≡ whole → ys ≡ other → IsRisingList whole → IsRisingList other → AreLeft xs ys whole other
left_at_first xs ys whole other e f h k =
    rw (e, f) (record { first = rises whole h; second = rises other k; same = (λ d. d, λ d. d) })

pub left_end : (xs ys whole other : List ℕ) → AreLeft xs ys whole other → None ≡ slice_get xs 0 → AreDisjoint whole other
left_end xs ys whole other was e = was.same.0 (disjoint_end xs ys e)

pub left_other_end : (xs ys whole other : List ℕ) → AreLeft xs ys whole other → None ≡ slice_get ys 0 → AreDisjoint whole other
left_other_end xs ys whole other was e = was.same.0 (disjoint_other_end xs ys e)

pub left_shared : (xs ys whole other : List ℕ) (n m : ℕ) → AreLeft xs ys whole other → Some n ≡ slice_get xs 0 → Some m ≡ slice_get ys 0 → n ≡ m
    → IsTrue false ↔ AreDisjoint whole other
left_shared xs ys whole other n m was e f same = (λ h. absurd (false≢true h), λ h. absurd (one_in_both xs ys n m e f same (was.same.1 h)))

pub left_first : (xs ys whole other now : List ℕ) (n m : ℕ) → AreLeft xs ys whole other → Some n ≡ slice_get xs 0 → Some m ≡ slice_get ys 0 → n < m
    → now ≡ drop 1 xs → AreLeft now ys whole other
left_first xs ys whole other now n m was e f l g =
    let step = disjoint_first xs ys n m e f l was.second in
    rw g (record { first = on_from xs was.first; second = was.second; same = (λ h. was.same.0 (step.0 h), λ h. step.1 (was.same.1 h)) })

pub left_second : (xs ys whole other now : List ℕ) (n m : ℕ) → AreLeft xs ys whole other → Some n ≡ slice_get xs 0 → Some m ≡ slice_get ys 0 → m < n
    → now ≡ drop 1 ys → AreLeft xs now whole other
left_second xs ys whole other now n m was e f l g =
    let step = disjoint_second xs ys n m e f l was.first in
    rw g (record { first = was.first; second = on_from ys was.second; same = (λ h. was.same.0 (step.0 h), λ h. step.1 (was.same.1 h)) })

-- ---- one number less, and a number of one list

pub no_longer_first : (x : ℕ) (xs ys : List ℕ) → AreDisjoint (x ∷ xs) ys → AreDisjoint xs ys
unfolding AreDisjoint
no_longer_first x xs ys h n k = h n (has_more n x xs k)

pub no_longer_second : (y : ℕ) (xs ys : List ℕ) → AreDisjoint xs (y ∷ ys) → AreDisjoint xs ys
unfolding AreDisjoint
no_longer_second y xs ys h n k =
    let there : has_number n (y ∷ ys) ≡ false = h n k in
    ⊎_elim
    (λ (e : y ≡ n). let here : has_number n (y ∷ ys) ≡ true = rw (eq-eqb y n e) refl in absurd (cc))
    (λ (e : y ≡ n → ⊥). let same : has_number n (y ∷ ys) ≡ has_number n ys = rw (ne_eqb y n e) refl in sym same ∙ there)
    (cases_eq y n)

pub not_in_first : (n : ℕ) (xs ys : List ℕ) → AreDisjoint xs ys → has_number n ys ≡ true → has_number n xs ≡ false
unfolding AreDisjoint
not_in_first n xs ys h k = false_from_ne_true (has_number n xs) (λ e. let none : has_number n ys ≡ false = h n e in absurd (cc))
