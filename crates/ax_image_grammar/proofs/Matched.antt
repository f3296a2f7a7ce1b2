-- What is held and where it stands, side by side: two maps with the same numbers, two lists as long.
use Rattle.std.proofs.Common.{◌≡◌, ℕ, zero, suc, ◌+◌, ◌<◌, nat_lt, arith, Bool, true, false, ◌⊎◌}
use Rattle.std.proofs.Common.{List, [], ◌∷◌, ◌++◌}
use Rattle.std.proofs.Common.{length, Option, get_or, slice_get, slice_set, refl, sym, ap, subst}
use Rattle.std.proofs.Common.{⊎_elim, ◌∙◌}
use Rattle.std.specs.Prelude.{Some, None, if◌then◌else◌}
use Rattle.std.specs.List.{AllZip}
use Rattle.std.specs.Ordering.{nat_cmp}
use Rattle.std.specs.FinMap as map
use Rattle.std.proofs.lemmas.Bool.{cases_eq, false≢true, lt-ltb}
use Rattle.ax_pages.proofs.LastPart.{get_inserted, get_not_inserted, get_removed, get_not_removed}
use Rattle.ax_area.proofs.OneTelling.{same_some, some_or_none}

-- ---- what may be there

-- both are there and go together, or neither is
abbrev pub Matched : {X Y : Type 0} → (X → Y → Type 0) → Option X → Option Y → Type 0
Matched R None None = Unit {0}
Matched R None (Some y) = ⊥
Matched R (Some x) None = ⊥
Matched R (Some x) (Some y) = R x y

matched_as : {X Y : Type 0} (R : X → Y → Type 0) (a b : Option X) (c d : Option Y) → a ≡ b → c ≡ d
    → Matched R b d → Matched R a c
matched_as R a b c d e f is =
    subst (λ o. Matched R o c) (sym e) (subst (λ o. Matched R b o) (sym f) is)

pub right_of : {X Y : Type 0} (R : X → Y → Type 0) (a : Option X) (b : Option Y) → Matched R a b
    → (x : X) → a ≡ Some x → (y : Y) × (b ≡ Some y) × R x y
right_of R None b is x e = absurd (some_or_none x e)
right_of R (Some z) None is x e = absurd is
right_of R (Some z) (Some y) is x e = (y, refl, subst (λ w. R w y) (same_some z x e) is)

pub left_of : {X Y : Type 0} (R : X → Y → Type 0) (a : Option X) (b : Option Y) → Matched R a b
    → (y : Y) → b ≡ Some y → (x : X) × (a ≡ Some x) × R x y
left_of R a None is y e = absurd (some_or_none y e)
left_of R None (Some z) is y e = absurd is
left_of R (Some x) (Some z) is y e = (x, refl, subst (λ w. R x w) (same_some z y e) is)

-- ---- maps

abbrev pub AreMatched : {X Y : Type 0} → (ℕ → X → Y → Type 0) → map.FinMap nat_cmp X
    → map.FinMap nat_cmp Y → Type 0
AreMatched R xs ys = (n : ℕ) → Matched (R n) (map.get xs n) (map.get ys n)

module _ {X Y : Type 0} (R : ℕ → X → Y → Type 0) where
  pub none_matched : AreMatched R map.empty map.empty
  none_matched n = matched_as (R n) (map.get map.empty n) None (map.get map.empty n) None
      (map.get-empty nat_cmp n) (map.get-empty nat_cmp n) tt

  module _ (xs : map.FinMap nat_cmp X) (ys : map.FinMap nat_cmp Y) (key : ℕ)
      (before : AreMatched R xs ys) where
    pub one_matched : (x : X) (y : Y) → R key x y
        → AreMatched R (map.insert xs key x) (map.insert ys key y)
    one_matched x y one n =
        ⊎_elim
        (λ (same : n ≡ key).
        subst (λ m. Matched (R m) (map.get (map.insert xs key x) m)
        (map.get (map.insert ys key y) m)) (sym same)
        (matched_as (R key) (map.get (map.insert xs key x) key) (Some x)
        (map.get (map.insert ys key y) key) (Some y)
        (get_inserted xs key x) (get_inserted ys key y) one))
        (λ (apart : n ≡ key → ⊥).
        matched_as (R n) (map.get (map.insert xs key x) n) (map.get xs n)
        (map.get (map.insert ys key y) n) (map.get ys n)
        (get_not_inserted xs key n x apart) (get_not_inserted ys key n y apart) (before n))
        (cases_eq n key)

    pub less_matched : AreMatched R (map.remove xs key) (map.remove ys key)
    less_matched n =
        ⊎_elim
        (λ (same : n ≡ key).
        subst (λ m. Matched (R m) (map.get (map.remove xs key) m) (map.get (map.remove ys key) m))
        (sym same)
        (matched_as (R key) (map.get (map.remove xs key) key) None
        (map.get (map.remove ys key) key) None (get_removed xs key) (get_removed ys key) tt))
        (λ (apart : n ≡ key → ⊥).
        matched_as (R n) (map.get (map.remove xs key) n) (map.get xs n)
        (map.get (map.remove ys key) n) (map.get ys n)
        (get_not_removed xs key n apart) (get_not_removed ys key n apart) (before n))
        (cases_eq n key)

-- ---- lists

module _ {X Y : Type 0} (R : X → Y → Type 0) where
  pub zip_long : (xs : List X) (ys : List Y) → AllZip R xs ys → length xs ≡ length ys
  zip_long [] [] all = refl
  zip_long [] (y ∷ ys) all = absurd all
  zip_long (x ∷ xs) [] all = absurd all
  zip_long (x ∷ xs) (y ∷ ys) all = ap suc (zip_long xs ys all.1)

  pub zip_joined : (xs : List X) (ys : List Y) (us : List X) (vs : List Y) → AllZip R xs ys
      → AllZip R us vs → AllZip R (xs ++ us) (ys ++ vs)
  zip_joined [] [] us vs all others = others
  zip_joined [] (y ∷ ys) us vs all others = absurd all
  zip_joined (x ∷ xs) [] us vs all others = absurd all
  zip_joined (x ∷ xs) (y ∷ ys) us vs all others = (all.0, zip_joined xs ys us vs all.1 others)

  pub zip_left : (xs : List X) (ys : List Y) (k : ℕ) (y : Y) → AllZip R xs ys
      → slice_get ys k ≡ Some y → (x : X) × (slice_get xs k ≡ Some x) × R x y
  zip_left [] [] k y all e = absurd (some_or_none y e)
  zip_left [] (w ∷ ys) k y all e = absurd all
  zip_left (x ∷ xs) [] k y all e = absurd all
  zip_left (x ∷ xs) (w ∷ ys) zero y all e = (x, refl, subst (λ v. R x v) (same_some w y e) all.0)
  zip_left (x ∷ xs) (w ∷ ys) (suc k) y all e = zip_left xs ys k y all.1 e

-- ---- lists by number

-- the lists are as long, and what has one number goes together, from this number on
abbrev pub AllNumbered : {X Y : Type 0} → (ℕ → X → Y → Type 0) → ℕ → List X → List Y → Type 0
AllNumbered R n [] [] = Unit {0}
AllNumbered R n [] (y ∷ ys) = ⊥
AllNumbered R n (x ∷ xs) [] = ⊥
AllNumbered R n (x ∷ xs) (y ∷ ys) = R n x y × AllNumbered R (n + 1) xs ys

module _ {X Y : Type 0} (R : ℕ → X → Y → Type 0) where
  pub numbered_long : (n : ℕ) (xs : List X) (ys : List Y) → AllNumbered R n xs ys
      → length xs ≡ length ys
  numbered_long n [] [] all = refl
  numbered_long n [] (y ∷ ys) all = absurd all
  numbered_long n (x ∷ xs) [] all = absurd all
  numbered_long n (x ∷ xs) (y ∷ ys) all = ap suc (numbered_long (n + 1) xs ys all.1)

  pub numbered_set : (n : ℕ) (xs : List X) (ys : List Y) (k : ℕ) (x : X) (y : Y)
      → AllNumbered R n xs ys → R (n + k) x y
      → AllNumbered R n (slice_set xs k x) (slice_set ys k y)
  numbered_set n [] [] k x y all one = tt
  numbered_set n [] (w ∷ ys) k x y all one = absurd all
  numbered_set n (z ∷ xs) [] k x y all one = absurd all
  numbered_set n (z ∷ xs) (w ∷ ys) zero x y all one =
      let e : n + 0 ≡ n = omega arith in
      (subst (λ m. R m x y) e one, all.1)
  numbered_set n (z ∷ xs) (w ∷ ys) (suc k) x y all one =
      let e : n + suc k ≡ n + 1 + k = omega arith in
      (all.0, numbered_set (n + 1) xs ys k x y all.1 (subst (λ m. R m x y) e one))

  pub numbered_get : (n : ℕ) (xs : List X) (ys : List Y) (k : ℕ) (x : X) (y : Y)
      → AllNumbered R n xs ys → R (n + k) x y → R (n + k) (get_or xs k x) (get_or ys k y)
  numbered_get n [] [] k x y all one = one
  numbered_get n [] (w ∷ ys) k x y all one = absurd all
  numbered_get n (z ∷ xs) [] k x y all one = absurd all
  numbered_get n (z ∷ xs) (w ∷ ys) zero x y all one =
      let e : n ≡ n + 0 = omega arith in
      subst (λ m. R m z w) e all.0
  numbered_get n (z ∷ xs) (w ∷ ys) (suc k) x y all one =
      let e : n + suc k ≡ n + 1 + k = omega arith in
      subst (λ m. R m (get_or xs k x) (get_or ys k y)) (sym e)
      (numbered_get (n + 1) xs ys k x y all.1 (subst (λ m. R m x y) e one))

  numbered_push : (n : ℕ) (xs : List X) (ys : List Y) (x : X) (y : Y) → AllNumbered R n xs ys
      → R (n + length xs) x y → AllNumbered R n (xs ++ x ∷ []) (ys ++ y ∷ [])
  numbered_push n [] [] x y all one =
      let e : n + 0 ≡ n = omega arith in
      (subst (λ m. R m x y) e one, tt)
  numbered_push n [] (w ∷ ys) x y all one = absurd all
  numbered_push n (z ∷ xs) [] x y all one = absurd all
  numbered_push n (z ∷ xs) (w ∷ ys) x y all one =
      let e : n + length (z ∷ xs) ≡ n + 1 + length xs = omega arith in
      (all.0, numbered_push (n + 1) xs ys x y all.1 (subst (λ m. R m x y) e one))

  -- one put in the place of another, or behind the last
  pub numbered_put : (xs : List X) (ys : List Y) (k : ℕ) (x : X) (y : Y) → AllNumbered R 0 xs ys
      → (k < length ys) ⊎ (k ≡ length ys) → R k x y
      → AllNumbered R 0 (if nat_lt k (length xs) then slice_set xs k x else xs ++ x ∷ [])
      (if nat_lt k (length ys) then slice_set ys k y else ys ++ y ∷ [])
  numbered_put xs ys k x y all place one =
      subst (λ c. AllNumbered R 0 (if nat_lt k (length xs) then slice_set xs k x else xs ++ x ∷ [])
      (if c then slice_set ys k y else ys ++ y ∷ [])) (ap (nat_lt k) long)
      (by_test (nat_lt k (length xs)) refl)
    where
      long : length xs ≡ length ys
      long = numbered_long 0 xs ys all

      at_end : nat_lt k (length xs) ≡ false → k ≡ 0 + length xs
      at_end e =
          ⊎_elim
          (λ (h : k < length ys).
          absurd (false≢true (sym e ∙ lt-ltb k (length xs) (omega (arith, h, long)))))
          (λ (same : k ≡ length ys). omega (arith, same, long)) place

      by_test : (b : Bool) → nat_lt k (length xs) ≡ b
          → AllNumbered R 0 (if b then slice_set xs k x else xs ++ x ∷ [])
          (if b then slice_set ys k y else ys ++ y ∷ [])
      by_test true e =
          let same : k ≡ 0 + k = omega arith in
          numbered_set 0 xs ys k x y all (subst (λ m. R m x y) same one)
      by_test false e = numbered_push 0 xs ys x y all (subst (λ m. R m x y) (at_end e) one)
