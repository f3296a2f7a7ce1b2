-- Lists without repeats, and when one is no longer than another.
use Rattle.std.proofs.Common.{◌≡◌, ◌⊎◌, inl, inr, ℕ, ◌+◌, ◌<◌, ◌≤◌, List, [], ◌∷◌, length, map, Bool, true, false, cond, ◌||◌, count_by, refl, sym, ap, subst, ◌∙◌, arith}
use Rattle.std.specs.List.{filter, list_any}
use Rattle.std.specs.Str.{bytes_eq}
use Rattle.std.proofs.lemmas.List.Sums.{sum_by-cons}
use Rattle.ax_container.proofs.Ids.{bytes_eq-self, same_from_eq}
use Rattle.ax_container.specs.Reindexing.{distinct}

abbrev pub In : {A : Type 0} → A → List A → Type 0
In x [] = ⊥
In x (y ∷ ys) = (x ≡ y) ⊎ In x ys

abbrev pub NoTwice : {A : Type 0} → List A → Type 0
NoTwice [] = Unit {0}
NoTwice (x ∷ xs) = (In x xs → ⊥) × NoTwice xs

-- ---- no more of these than of those

abbrev without : {A : Type 0} (x : A) (ys : List A) → In x ys → List A
without x [] there = absurd there
without x (y ∷ ys) (inl is) = ys
without x (y ∷ ys) (inr there) = y ∷ without x ys there

shorter : {A : Type 0} (x : A) (ys : List A) (there : In x ys) → length ys ≡ length (without x ys there) + 1
shorter x [] there = absurd there
shorter x (y ∷ ys) (inl is) = omega arith
shorter x (y ∷ ys) (inr there) = omega (arith, shorter x ys there)

in_without : {A : Type 0} (x z : A) (ys : List A) (there : In x ys) → In z ys → (z ≡ x → ⊥) → In z (without x ys there)
in_without x z [] there other apart = absurd there
in_without x z (y ∷ ys) (inl is) (inl same) apart = absurd (apart (same ∙ sym is))
in_without x z (y ∷ ys) (inl is) (inr later) apart = later
in_without x z (y ∷ ys) (inr there) (inl same) apart = inl same
in_without x z (y ∷ ys) (inr there) (inr later) apart = inr (in_without x z ys there later apart)

-- where each of these has one of those, and no two the same one
pub no_more : {A B : Type 0} (R : A → B → Type 0) (xs : List A) (ys : List B) → NoTwice xs
    → ((x : A) → In x xs → (y : B) × In y ys × R x y)
    → ((x z : A) (y : B) → In x xs → In z xs → R x y → R z y → x ≡ z)
    → length xs ≤ length ys
no_more R [] ys twice each one = omega arith
no_more {A} {B} R (x ∷ xs) ys twice each one =
    let first = each x (inl refl) in
    let rest = no_more R xs (without first.0 ys first.1) twice.1
    (λ z there.
    let its = each z (inr there) in (
      its.0,
      in_without first.0 its.0 ys first.1 its.1
          (λ same. twice.0 (subst (λ (w : A). In w xs) (sym (one x z first.0 (inl refl) (inr there) first.2 (subst (R z) same its.2))) there)),
      its.2,
    ))
    (λ a b y ta tb. one a b y (inr ta) (inr tb)) in
    omega (arith, rest, shorter first.0 ys first.1)

-- ---- what a test lets through

abbrev bit : Bool → ℕ
bit b = cond b 1 0

module _ {A : Type 0} (test : A → Bool) where
  pub in_filter : (xs : List A) (x : A) → In x xs → test x ≡ true → In x (filter test xs)
  in_filter [] x there passes = absurd there
  in_filter (y ∷ ys) x (inl same) passes =
      subst (λ b. In x (cond b (y ∷ filter test ys) (filter test ys))) (sym passes ∙ ap test same) (inl same)
  in_filter (y ∷ ys) x (inr later) passes =
      elim (test y) as (λ b. In x (cond b (y ∷ filter test ys) (filter test ys))) [
        | true ↦ inr (in_filter ys x later passes)
        | false ↦ in_filter ys x later passes
      ]

  pub of_filter : (xs : List A) (x : A) → In x (filter test xs) → In x xs × (test x ≡ true)
  of_filter [] x there = absurd there
  of_filter (y ∷ ys) x there = by_test (test y) refl (of_filter ys x) there
    where
      by_test : (b : Bool) → test y ≡ b → (In x (filter test ys) → In x ys × (test x ≡ true))
          → In x (cond b (y ∷ filter test ys) (filter test ys)) → In x (y ∷ ys) × (test x ≡ true)
      by_test true passes rest (inl same) = (inl same, ap test same ∙ passes)
      by_test true passes rest (inr later) = let it = rest later in (inr it.0, it.1)
      by_test false passes rest later = let it = rest later in (inr it.0, it.1)

  pub filter_no_twice : (xs : List A) → NoTwice xs → NoTwice (filter test xs)
  filter_no_twice [] twice = tt
  filter_no_twice (y ∷ ys) twice =
      elim (test y) as (λ b. NoTwice (cond b (y ∷ filter test ys) (filter test ys))) [
        | true ↦ ((λ there. twice.0 (of_filter ys y there).0), filter_no_twice ys twice.1)
        | false ↦ filter_no_twice ys twice.1
      ]

  counted_first : (y : A) (ys : List A) → count_by test (y ∷ ys) ≡ bit (test y) + count_by test ys
  counted_first y ys = sum_by-cons (λ (z : A). cond (test z) 1 0) y ys

  pub none_left : (xs : List A) (x : A) → count_by test xs ≡ 0 → In x xs → test x ≡ false
  none_left [] x none there = absurd there
  none_left (y ∷ ys) x none there = by_test (test y) refl (sym (counted_first y ys) ∙ none) (none_left ys x) there
    where
      by_test : (b : Bool) → test y ≡ b → bit b + count_by test ys ≡ 0 → (count_by test ys ≡ 0 → In x ys → test x ≡ false)
          → In x (y ∷ ys) → test x ≡ false
      by_test true is count rest there = absurd (omega (arith, count))
      by_test false is count rest (inl same) = ap test same ∙ is
      by_test false is count rest (inr later) = rest (omega (arith, count)) later

  pub some_counted : (xs : List A) (x : A) → In x xs → test x ≡ true → 0 < count_by test xs
  some_counted [] x there passes = absurd there
  some_counted (y ∷ ys) x (inl same) passes =
      let one : bit (test y) ≡ bit true = ap bit (sym (ap test same) ∙ passes) in
      omega (arith, counted_first y ys, one)
  some_counted (y ∷ ys) x (inr later) passes = omega (arith, counted_first y ys, some_counted ys x later passes)

  pub one_counted : (xs : List A) → 0 < count_by test xs → (x : A) × In x xs × (test x ≡ true)
  one_counted [] some = absurd (omega (arith, some))
  one_counted (y ∷ ys) some = by_test (test y) refl (subst (λ n. 0 < n) (counted_first y ys) some) (one_counted ys)
    where
      by_test : (b : Bool) → test y ≡ b → 0 < bit b + count_by test ys
          → (0 < count_by test ys → (x : A) × In x ys × (test x ≡ true)) → (x : A) × In x (y ∷ ys) × (test x ≡ true)
      by_test true is more rest = (y, inl refl, is)
      by_test false is more rest = let it = rest (omega (arith, more)) in (it.0, inr it.1, it.2)

-- ---- what stands for elements

module _ {A B : Type 0} (f : A → B) where
  pub in_map : (xs : List A) (x : A) → In x xs → In (f x) (map f xs)
  in_map [] x there = absurd there
  in_map (y ∷ ys) x (inl same) = inl (ap f same)
  in_map (y ∷ ys) x (inr later) = inr (in_map ys x later)

  pub of_map : (xs : List A) (y : B) → In y (map f xs) → (x : A) × In x xs × (y ≡ f x)
  of_map [] y there = absurd there
  of_map (x ∷ xs) y (inl same) = (x, inl refl, same)
  of_map (x ∷ xs) y (inr later) = let it = of_map xs y later in (it.0, inr it.1, it.2)

-- ---- texts, each once

any_in : (text : List ℕ) (texts : List (List ℕ)) → list_any (bytes_eq text) texts ≡ true → In text texts
any_in text [] is = absurd cc
any_in text (first ∷ texts) is = by_test (bytes_eq text first) refl (any_in text texts) is
  where
    by_test : (b : Bool) → bytes_eq text first ≡ b → (list_any (bytes_eq text) texts ≡ true → In text texts)
        → (b || list_any (bytes_eq text) texts) ≡ true → In text (first ∷ texts)
    by_test true same rest here = inl (same_from_eq text first same)
    by_test false same rest later = inr (rest later)

in_any : (text : List ℕ) (texts : List (List ℕ)) → In text texts → list_any (bytes_eq text) texts ≡ true
in_any text [] there = absurd there
in_any text (first ∷ texts) (inl same) =
    ap (λ b. b || list_any (bytes_eq text) texts) (sym (ap (bytes_eq text) same) ∙ bytes_eq-self text)
in_any text (first ∷ texts) (inr later) =
    elim (bytes_eq text first) as (λ b. (b || list_any (bytes_eq text) texts) ≡ true) [
      | true ↦ refl
      | false ↦ in_any text texts later
    ]

pub in_distinct : (text : List ℕ) (texts : List (List ℕ)) → In text texts → In text (distinct texts)
in_distinct text [] there = absurd there
in_distinct text (first ∷ texts) there =
    by_test (list_any (bytes_eq first) texts) refl (in_distinct text texts) (in_distinct first texts) there
  where
    by_test : (b : Bool) → list_any (bytes_eq first) texts ≡ b → (In text texts → In text (distinct texts))
        → (In first texts → In first (distinct texts)) → In text (first ∷ texts)
        → In text (cond b (distinct texts) (first ∷ distinct texts))
    by_test true is rest again (inl same) =
        subst (λ (t : List ℕ). In t (distinct texts)) (sym same) (again (any_in first texts is))
    by_test true is rest again (inr later) = rest later
    by_test false is rest again (inl same) = inl same
    by_test false is rest again (inr later) = inr (rest later)

pub of_distinct : (text : List ℕ) (texts : List (List ℕ)) → In text (distinct texts) → In text texts
of_distinct text [] there = absurd there
of_distinct text (first ∷ texts) there = by_test (list_any (bytes_eq first) texts) (of_distinct text texts) there
  where
    by_test : (b : Bool) → (In text (distinct texts) → In text texts) → In text (cond b (distinct texts) (first ∷ distinct texts))
        → In text (first ∷ texts)
    by_test true rest later = inr (rest later)
    by_test false rest (inl same) = inl same
    by_test false rest (inr later) = inr (rest later)

pub distinct_no_twice : (texts : List (List ℕ)) → NoTwice (distinct texts)
distinct_no_twice [] = tt
distinct_no_twice (first ∷ texts) = by_test (list_any (bytes_eq first) texts) refl (distinct_no_twice texts)
  where
    by_test : (b : Bool) → list_any (bytes_eq first) texts ≡ b → NoTwice (distinct texts)
        → NoTwice (cond b (distinct texts) (first ∷ distinct texts))
    by_test true is rest = rest
    by_test false is rest = (
      (λ there. let any : list_any (bytes_eq first) texts ≡ true = in_any first texts (of_distinct first texts there) in
          let e : true ≡ false = sym any ∙ is in absurd cc),
      rest,
    )
