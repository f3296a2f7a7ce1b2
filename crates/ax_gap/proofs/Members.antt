-- What the set operations on rising lists contain.
use Rattle.std.proofs.Common.{◌≡◌, ℕ, ◌+◌, ◌==◌, ◌||◌, ◌&&◌, List, [], ◌∷◌, arith, refl, ap, ◌∙◌, sym, subst, Bool, true, false, not, cond, nat_lt}
use Rattle.std.proofs.Common.{zero, suc, filter, inl, inr, ⊎_elim, ◌⊎◌, Contains, ◌↔◌}
use Rattle.std.specs.List.Sorted.{IsStrictlyIncreasing}
use Rattle.std.proofs.lemmas.Bool.{lt-ltb, ne_eqb, eq-eqb, eqb-true, cases_order, cases_eq, and_parts, and_from, or_cases, cases_Bool, not-true}
use Rattle.std.proofs.lemmas.Bool.{false≢true, and_right, both_ways}
use Rattle.std.proofs.lemmas.List.Kept.{IsStrictlyIncreasing-filter}
use Rattle.ax_gap.specs.Gaps.{IsRisingList}
use Rattle.ax_gap.proofs.Rising.{RisesFrom, rises, rising_list}
use Rattle.ax_gap.proofs.Merging.{is_in, put, meet_of, without_of, join_of, join_rises, below_all, put-equal, put-above}

-- ---- the test of membership

pub in_from_contains : (xs : List ℕ) (n : ℕ) → Contains xs n → is_in n xs ≡ true
in_from_contains [] n (k, l, e) = absurd (omega arith)
in_from_contains (x ∷ xs) n (zero, l, e) = let same : (n == x) ≡ true = eq-eqb n x (sym e) in rw same refl
in_from_contains (x ∷ xs) n (suc k, l, e) =
    let later : is_in n xs ≡ true = in_from_contains xs n (k, omega arith, e) in
    elim (n == x) as (λ b. (b || is_in n xs) ≡ true) [ true ↦ refl | false ↦ later ]

pub contains_from_in : (xs : List ℕ) (n : ℕ) → is_in n xs ≡ true → Contains xs n
contains_from_in [] n h = absurd (cc)
contains_from_in (x ∷ xs) n h =
    ⊎_elim
    (λ e. (0, omega arith, sym (eqb-true n x e)))
    (λ e. let (k, l, at) = contains_from_in xs n e in (suc k, omega arith, at))
    (or_cases (n == x) (is_in n xs) h)

filter_step : (passes same later here kept : Bool) → kept ≡ (later && here) → (same ≡ true → here ≡ passes)
    → cond passes (same || kept) kept ≡ ((same || later) && here)
filter_step true true later here kept e h = sym (h refl)
filter_step true false later here kept e h = e
filter_step false true later here kept e h =
    let none : here ≡ false = h refl in
    e ∙ ap (λ b. later && b) none ∙ and_right later false refl ∙ sym none
filter_step false false later here kept e h = e

pub in_filter : (p : ℕ → Bool) (xs : List ℕ) (n : ℕ) → is_in n (filter p xs) ≡ (is_in n xs && p n)
in_filter p [] n = refl
in_filter p (x ∷ xs) n =
    let parts : is_in n (cond (p x) (x ∷ filter p xs) (filter p xs)) ≡ cond (p x) (is_in n (x ∷ filter p xs)) (is_in n (filter p xs)) =
    elim (p x) as (λ b. is_in n (cond b (x ∷ filter p xs) (filter p xs)) ≡ cond b (is_in n (x ∷ filter p xs)) (is_in n (filter p xs)))
    [ true ↦ refl | false ↦ refl ]
    in
    parts
    ∙ filter_step (p x) (n == x) (is_in n xs) (p n) (is_in n (filter p xs)) (in_filter p xs n) (λ e. ap p (eqb-true n x e))

or_swap : (a b r : Bool) → (a || (b || r)) ≡ (b || (a || r))
or_swap true true r = refl
or_swap true false r = refl
or_swap false b r = refl

or_twice : (a r : Bool) → (a || r) ≡ (a || (a || r))
or_twice true r = refl
or_twice false r = refl

or_assoc : (a b r : Bool) → (a || (b || r)) ≡ ((a || b) || r)
or_assoc true b r = refl
or_assoc false b r = refl

pub in_put : (x : ℕ) (ys : List ℕ) (n : ℕ) → is_in n (put x ys) ≡ ((n == x) || is_in n ys)
in_put x [] n = refl
in_put x (y ∷ ys) n =
    ⊎_elim
    (λ e.
    ap (is_in n) (put-equal x y ys e) ∙ or_twice (n == y) (is_in n ys) ∙ ap (λ (m : ℕ). (n == m) || ((n == y) || is_in n ys)) (sym e))
    (λ apart. ⊎_elim
    (λ below. let s : nat_lt x y ≡ true = lt-ltb x y below in rw s refl)
    (λ above.
    ap (is_in n) (put-above x y ys above) ∙ ap (λ b. (n == y) || b) (in_put x ys n) ∙ or_swap (n == y) (n == x) (is_in n ys))
    apart)
    (cases_order x y)

pub in_join : (xs ys : List ℕ) (n : ℕ) → is_in n (join_of xs ys) ≡ (is_in n xs || is_in n ys)
in_join [] ys n = refl
in_join (x ∷ xs) ys n =
    in_put x (join_of xs ys) n ∙ ap (λ b. (n == x) || b) (in_join xs ys n) ∙ or_assoc (n == x) (is_in n xs) (is_in n ys)

-- ---- the clauses of the operations

or_left : (x y : Bool) → x ≡ true → (x || y) ≡ true
or_left x y e = rw e refl

or_right : (x y : Bool) → y ≡ true → (x || y) ≡ true
or_right true y e = refl
or_right false y e = e

not_in : (xs : List ℕ) (n : ℕ) → (Contains xs n → ⊥) → not (is_in n xs) ≡ true
not_in xs n h =
    ⊎_elim (λ e. absurd (h (contains_from_in xs n e))) (λ e. ap not e) (cases_Bool (is_in n xs))

pub meet_members : (out a b : List ℕ) → out ≡ meet_of a b → (n : ℕ) → Contains out n ↔ (Contains a n × Contains b n)
meet_members out a b e n =
    let test : is_in n out ≡ (is_in n a && is_in n b) = ap (is_in n) e ∙ in_filter (λ m. is_in m b) a n in (
      (λ h.
          let both = and_parts (is_in n a) (is_in n b) (sym test ∙ in_from_contains out n h) in
          (contains_from_in a n both.0, contains_from_in b n both.1)),
      λ h. contains_from_in out n (test ∙ and_from (is_in n a) (is_in n b) (in_from_contains a n h.0) (in_from_contains b n h.1)),
    )

pub join_members : (out a b : List ℕ) → out ≡ join_of a b → (n : ℕ) → Contains out n ↔ (Contains a n ⊎ Contains b n)
join_members out a b e n =
    let test : is_in n out ≡ (is_in n a || is_in n b) = ap (is_in n) e ∙ in_join a b n in (
      (λ h.
          ⊎_elim (λ l. inl (contains_from_in a n l)) (λ r. inr (contains_from_in b n r))
          (or_cases (is_in n a) (is_in n b) (sym test ∙ in_from_contains out n h))),
      λ h. contains_from_in out n
          (test ∙ ⊎_elim
          (λ l. or_left (is_in n a) (is_in n b) (in_from_contains a n l))
          (λ r. or_right (is_in n a) (is_in n b) (in_from_contains b n r)) h),
    )

pub without_members : (out a b : List ℕ) → out ≡ without_of a b → (n : ℕ) → Contains out n ↔ (Contains a n × (Contains b n → ⊥))
without_members out a b e n =
    let test : is_in n out ≡ (is_in n a && not (is_in n b)) = ap (is_in n) e ∙ in_filter (λ m. not (is_in m b)) a n in (
      (λ h.
          let both = and_parts (is_in n a) (not (is_in n b)) (sym test ∙ in_from_contains out n h) in
          (contains_from_in a n both.0, λ k. both_ways (is_in n b) (not-true (is_in n b) both.1) (in_from_contains b n k))),
      λ h. contains_from_in out n
          (test ∙ and_from (is_in n a) (not (is_in n b)) (in_from_contains a n h.0) (not_in b n h.1)),
    )

pub meet_increases : (out a b : List ℕ) → out ≡ meet_of a b → IsStrictlyIncreasing a → IsStrictlyIncreasing out
meet_increases out a b e up = subst IsStrictlyIncreasing (sym e) (IsStrictlyIncreasing-filter (λ n. is_in n b) a up)

pub without_increases : (out a b : List ℕ) → out ≡ without_of a b → IsStrictlyIncreasing a → IsStrictlyIncreasing out
without_increases out a b e up = subst IsStrictlyIncreasing (sym e) (IsStrictlyIncreasing-filter (λ n. not (is_in n b)) a up)

pub join_increases : (out a b : List ℕ) → out ≡ join_of a b → RisesFrom 0 a → RisesFrom 0 b → IsStrictlyIncreasing out
join_increases out a b e up vp = subst IsStrictlyIncreasing (sym e) (rising_list 0 (join_of a b) (join_rises 0 a b up vp)).rising

-- ---- lists with the same members are the same

same_test : (a b : Bool) → (a ≡ true → b ≡ true) → (b ≡ true → a ≡ true) → a ≡ b
same_test true b f g = sym (f refl)
same_test false true f g = g refl
same_test false false f g = refl

tail_test : (x : ℕ) (xs ys : List ℕ) → RisesFrom (x + 1) xs → RisesFrom (x + 1) ys → ((n : ℕ) → is_in n (x ∷ xs) ≡ is_in n (x ∷ ys)) → (n : ℕ)
    → is_in n xs ≡ is_in n ys
tail_test x xs ys up vp same n =
    ⊎_elim
    (λ e.
    let first : is_in n xs ≡ false = below_all n (x + 1) xs (omega arith) up in
    let second : is_in n ys ≡ false = below_all n (x + 1) ys (omega arith) vp in
    first ∙ sym second)
    (λ apart.
    let other : (n == x) ≡ false = ne_eqb n x apart in
    ap (λ b. b || is_in n xs) (sym other) ∙ same n ∙ ap (λ b. b || is_in n ys) other)
    (cases_eq n x)

head_in : (x : ℕ) (xs : List ℕ) → is_in x (x ∷ xs) ≡ true
head_in x xs = let here : (x == x) ≡ true = eq-eqb x x refl in rw here refl

same_from_tests : (xs ys : List ℕ) (low least : ℕ) → RisesFrom low xs → RisesFrom least ys → ((n : ℕ) → is_in n xs ≡ is_in n ys) → xs ≡ ys
same_from_tests [] [] low least up vp same = refl
same_from_tests [] (y ∷ ys) low least up vp same = absurd (false≢true (same y ∙ head_in y ys))
same_from_tests (x ∷ xs) [] low least up vp same = absurd (false≢true (sym (same x) ∙ head_in x xs))
same_from_tests (x ∷ xs) (y ∷ ys) low least up vp same =
    ⊎_elim
    (λ e.
    let tails : (n : ℕ) → is_in n xs ≡ is_in n ys =
    tail_test x xs ys up.2 (rw e vp.2) (λ n. same n ∙ ap (λ (m : ℕ). is_in n (m ∷ ys)) (sym e))
    in ap (λ l. x ∷ l) (same_from_tests xs ys (x + 1) (y + 1) up.2 vp.2 tails) ∙ ap (λ (m : ℕ). m ∷ ys) e)
    (λ apart. absurd (⊎_elim
    (λ below. false≢true (sym (below_all x y (y ∷ ys) below (omega arith, vp.1, vp.2)) ∙ sym (same x) ∙ head_in x xs))
    (λ above. false≢true (sym (below_all y x (x ∷ xs) above (omega arith, up.1, up.2)) ∙ same y ∙ head_in y ys))
    apart))
    (cases_order x y)

pub same_members : (a b : List ℕ) → IsRisingList a → IsRisingList b → ((n : ℕ) → Contains a n ↔ Contains b n) → a ≡ b
same_members a b up vp same =
    same_from_tests a b 0 0 (rises a up) (rises b vp)
    (λ n. same_test (is_in n a) (is_in n b)
    (λ h. in_from_contains b n ((same n).0 (contains_from_in a n h)))
    (λ h. in_from_contains a n ((same n).1 (contains_from_in b n h))))
