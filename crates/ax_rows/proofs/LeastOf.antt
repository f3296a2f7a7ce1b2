-- The least so many of rows that come in pieces: of the rows so far only the least so many are kept.
use Rattle.std.proofs.Common.{◌≡◌, ℕ, suc, ◌+◌, ◌<◌, ◌≤◌, List, [], ◌∷◌, ◌++◌, length, take, drop, Bool, true, false, cond, ◌⊎◌, inl, inr, refl, sym, ap, ◌∙◌, subst, arith}
use Rattle.std.specs.declared.cmp.Ordering.{Ordering}
use Rattle.std.specs.Ordering.{is_lt}
use Rattle.std.specs.List.{filter, AllByRecursion}
use Rattle.std.specs.List.Sorted.{ties}
use Rattle.std.specs.Cmp.{IsStrictWeakOrder}
use Rattle.std.proofs.lemmas.Bool.{cases_lt}
use Rattle.std.proofs.lemmas.List.{append_assoc, append-nil, length-take-le, take-append-drop, take-append-le, take_all}
use Rattle.std.proofs.lemmas.List.Elements.{filter-append}
use Rattle.ax_mean.specs.Answer.{inserted, sorted}
use Rattle.ax_rows.proofs.StableSort.{NoneBelow, Rises, lowered, rises_sorted, same, stable_sorted}

module _ {X : Type 0} (cmp : X → X → Ordering) (o : IsStrictWeakOrder (λ x y. is_lt (cmp x y))) where
  abbrev lt : X → X → Bool
  lt x y = is_lt (cmp x y)

  abbrev Above : X → X → Type 0
  Above y x = lt y x ≡ false

  -- y is put into a list behind at least so many elements, and none of those behind it is below it
  pub record IsBeside (y : X) (n : ℕ) (without with : List X) : Type 0 where
    pub front : List X
    pub back : List X
    pub is_without : without ≡ front ++ back
    pub is_with : with ≡ front ++ y ∷ back
    pub enough : n ≤ length front
    pub high : NoneBelow cmp o y back

  into_by : (y z : X) (zs : List X) (b : Bool) → lt z y ≡ b → Rises cmp o (z ∷ zs)
      → IsBeside y 0 zs (inserted cmp y zs)
      → IsBeside y 0 (z ∷ zs) (cond b (z ∷ inserted cmp y zs) (y ∷ z ∷ zs))
  into_by y z zs true e r later = record {
    front = z ∷ later.front;
    back = later.back;
    is_without = ap (λ ws. z ∷ ws) later.is_without;
    is_with = ap (λ ws. z ∷ ws) later.is_with;
    enough = omega arith;
    high = later.high;
  }
  into_by y z zs false e r later = record {
    front = [];
    back = z ∷ zs;
    is_without = refl;
    is_with = refl;
    enough = omega arith;
    high = (e, lowered cmp o y z zs e r.0);
  }

  into : (y : X) (zs : List X) → Rises cmp o zs → IsBeside y 0 zs (inserted cmp y zs)
  into y [] r = record { front = []; back = []; is_without = refl; is_with = refl; enough = omega arith; high = tt }
  into y (z ∷ zs) r = into_by y z zs (lt z y) refl r (into y zs r.1)

  before_back : (x y : X) (back : List X) → Above y x → NoneBelow cmp o y back
      → inserted cmp x back ≡ x ∷ back
  before_back x y [] h none = refl
  before_back x y (z ∷ zs) h none =
      ap (λ b. cond b (z ∷ inserted cmp x zs) (x ∷ z ∷ zs)) (o.chain z y x none.0 h)

  onto_by : (x y f : X) (front back : List X) (b : Bool) → lt f x ≡ b → NoneBelow cmp o y back
      → IsBeside y (length front + 1) (inserted cmp x (front ++ back)) (inserted cmp x (front ++ y ∷ back))
      → IsBeside y (length (f ∷ front) + 1)
      (cond b (f ∷ inserted cmp x (front ++ back)) (x ∷ f ∷ (front ++ back)))
      (cond b (f ∷ inserted cmp x (front ++ y ∷ back)) (x ∷ f ∷ (front ++ y ∷ back)))
  onto_by x y f front back true e none later = record {
    front = f ∷ later.front;
    back = later.back;
    is_without = ap (λ ws. f ∷ ws) later.is_without;
    is_with = ap (λ ws. f ∷ ws) later.is_with;
    enough = omega (arith, later.enough);
    high = later.high;
  }
  onto_by x y f front back false e none later = record {
    front = x ∷ f ∷ front;
    back = back;
    is_without = refl;
    is_with = refl;
    enough = omega arith;
    high = none;
  }

  -- one element more that y is not below comes before y
  onto : (x y : X) (front back : List X) → Above y x → NoneBelow cmp o y back
      → IsBeside y (length front + 1) (inserted cmp x (front ++ back)) (inserted cmp x (front ++ y ∷ back))
  onto x y [] back h none = record {
    front = x ∷ [];
    back = back;
    is_without = before_back x y back h none;
    is_with = ap (λ b. cond b (y ∷ inserted cmp x back) (x ∷ y ∷ back)) h;
    enough = omega arith;
    high = none;
  }
  onto x y (f ∷ front) back h none =
      onto_by x y f front back (lt f x) refl none (onto x y front back h none)

  beside : (y : X) (xs ys : List X) → AllByRecursion (Above y) xs
      → IsBeside y (length xs) (sorted cmp (xs ++ ys)) (sorted cmp (xs ++ y ∷ ys))
  beside y [] ys all = into y (sorted cmp ys) (rises_sorted cmp o ys)
  beside y (x ∷ xs) ys all =
      let before = beside y xs ys all.1 in
      let put = onto x y before.front before.back all.0 before.high in
      record {
        front = put.front;
        back = put.back;
        is_without = ap (inserted cmp x) before.is_without ∙ put.is_without;
        is_with = ap (inserted cmp x) before.is_with ∙ put.is_with;
        enough = omega (arith, put.enough, before.enough);
        high = put.high;
      }

  -- an element that is not below the first so many changes nothing of the least so many
  pub one_less : (k : ℕ) (y : X) (xs ys : List X) → AllByRecursion (Above y) xs → k ≤ length xs
      → take k (sorted cmp (xs ++ y ∷ ys)) ≡ take k (sorted cmp (xs ++ ys))
  one_less k y xs ys all low =
      let b = beside y xs ys all in
      let short : k ≤ length b.front = omega (arith, low, b.enough) in
      ap (take k) b.is_with ∙ take-append-le k b.front (y ∷ b.back) short
      ∙ sym (take-append-le k b.front b.back short) ∙ sym (ap (take k) b.is_without)

  pub all_less : (k : ℕ) (xs zs ys : List X) → AllByRecursion (λ z. AllByRecursion (Above z) xs) zs
      → k ≤ length xs → take k (sorted cmp (xs ++ (zs ++ ys))) ≡ take k (sorted cmp (xs ++ ys))
  all_less k xs [] ys all low = refl
  all_less k xs (z ∷ zs) ys all low =
      one_less k z xs (zs ++ ys) all.0 low ∙ all_less k xs zs ys all.1 low

  -- ---- what is sorted may be sorted before more comes

  pub sorted_before : (xs ys : List X) → sorted cmp (sorted cmp xs ++ ys) ≡ sorted cmp (xs ++ ys)
  sorted_before xs ys =
      same cmp o (sorted cmp (sorted cmp xs ++ ys)) (sorted cmp (xs ++ ys))
      (rises_sorted cmp o (sorted cmp xs ++ ys)) (rises_sorted cmp o (xs ++ ys))
      (λ w. stable_sorted cmp o w (sorted cmp xs ++ ys)
      ∙ filter-append (ties lt w) (sorted cmp xs) ys
      ∙ ap (λ zs. zs ++ filter (ties lt w) ys) (stable_sorted cmp o w xs)
      ∙ sym (filter-append (ties lt w) xs ys)
      ∙ sym (stable_sorted cmp o w (xs ++ ys)))

  -- ---- the least of a list that rises

  none_above : (x : X) (ys : List X) → NoneBelow cmp o x ys → AllByRecursion (λ y. lt y x ≡ false) ys
  none_above x [] n = tt
  none_above x (y ∷ ys) n = (n.0, none_above x ys n.1)

  each_of_rest : (P : X → Type 0) (xs ys : List X) → AllByRecursion P (xs ++ ys) → AllByRecursion P ys
  each_of_rest P [] ys all = all
  each_of_rest P (x ∷ xs) ys all = each_of_rest P xs ys all.1

  consed : (x : X) (xs zs : List X) → AllByRecursion (λ z. lt z x ≡ false) zs
      → AllByRecursion (λ z. AllByRecursion (Above z) xs) zs
      → AllByRecursion (λ z. AllByRecursion (Above z) (x ∷ xs)) zs
  consed x xs [] a b = tt
  consed x xs (z ∷ zs) a b = ((a.0, b.0), consed x xs zs a.1 b.1)

  none_before : (zs : List X) → AllByRecursion (λ z. AllByRecursion (Above z) []) zs
  none_before [] = tt
  none_before (z ∷ zs) = (tt, none_before zs)

  pub later_above : (xs zs : List X) → Rises cmp o (xs ++ zs) → AllByRecursion (λ z. AllByRecursion (Above z) xs) zs
  later_above [] zs r = none_before zs
  later_above (x ∷ xs) zs r =
      consed x xs zs (each_of_rest (λ z. lt z x ≡ false) xs zs (none_above x (xs ++ zs) r.0))
      (later_above xs zs r.1)

  least_by : (k : ℕ) (rows ys : List X) → Rises cmp o rows → (k ≤ length rows) ⊎ (length rows < k)
      → take k (sorted cmp (take k rows ++ ys)) ≡ take k (sorted cmp (rows ++ ys))
  least_by k rows ys r (inl low) =
      let parted : take k rows ++ (drop k rows ++ ys) ≡ rows ++ ys =
      sym (append_assoc (take k rows) (drop k rows) ys) ∙ ap (λ zs. zs ++ ys) (take-append-drop k rows) in
      sym (all_less k (take k rows) (drop k rows) ys
      (later_above (take k rows) (drop k rows) (subst (Rises cmp o) (sym (take-append-drop k rows)) r))
      (omega (arith, length-take-le k rows low)))
      ∙ ap (λ zs. take k (sorted cmp zs)) parted
  least_by k rows ys r (inr high) =
      ap (λ zs. take k (sorted cmp (zs ++ ys))) (take_all k rows (omega (arith, high)))

  -- of the rows so far the least k are enough
  pub least : (k : ℕ) (xs ys : List X)
      → take k (sorted cmp (take k (sorted cmp xs) ++ ys)) ≡ take k (sorted cmp (xs ++ ys))
  least k xs ys =
      least_by k (sorted cmp xs) ys (rises_sorted cmp o xs) (at_most k (length (sorted cmp xs)))
      ∙ ap (take k) (sorted_before xs ys) where
        at_most : (a b : ℕ) → (a ≤ b) ⊎ (b < a)
        at_most a b = elim (cases_lt b a) [ inl l ↦ inr l | inr g ↦ inl g ]

  -- Rows of which none is below one of the least k, where there are so many, change nothing of them:
  -- what is read may stop there.
  pub stops : (k : ℕ) (xs zs : List X) → k ≤ length xs
      → AllByRecursion (λ z. AllByRecursion (Above z) (take k (sorted cmp xs))) zs
      → take k (sorted cmp (xs ++ zs)) ≡ take k (sorted cmp xs)
  stops k xs zs low all =
      sym (least k xs zs)
      ∙ ap (λ ys. take k (sorted cmp (take k (sorted cmp xs) ++ ys))) (sym (append-nil zs))
      ∙ all_less k (take k (sorted cmp xs)) zs [] all
      (let long : length (take k (sorted cmp xs)) ≡ k = length-take-le k (sorted cmp xs) (omega (arith, low, length_sorted xs)) in omega (arith, long))
      ∙ least k xs []
      ∙ ap (λ ys. take k (sorted cmp ys)) (append-nil xs) where
        length_inserted : (x : X) (ys : List X) → length (inserted cmp x ys) ≡ suc (length ys)
        length_inserted x [] = refl
        length_inserted x (y ∷ ys) =
            elim (is_lt (cmp y x)) as (λ b. length (cond b (y ∷ inserted cmp x ys) (x ∷ y ∷ ys)) ≡ suc (suc (length ys)))
            [ true ↦ ap suc (length_inserted x ys) | false ↦ refl ]

        length_sorted : (ys : List X) → length (sorted cmp ys) ≡ length ys
        length_sorted [] = refl
        length_sorted (y ∷ ys) = length_inserted y (sorted cmp ys) ∙ ap suc (length_sorted ys)

  -- more rows behind those of which the least are known
  pub least_more : (k : ℕ) (xs ys zs : List X) → take k (sorted cmp xs) ≡ take k (sorted cmp ys)
      → take k (sorted cmp (xs ++ zs)) ≡ take k (sorted cmp (ys ++ zs))
  least_more k xs ys zs e =
      sym (least k xs zs) ∙ ap (λ ws. take k (sorted cmp (ws ++ zs))) e ∙ least k ys zs

  pub least_again : (k : ℕ) (xs : List X) → take k (sorted cmp (take k (sorted cmp xs))) ≡ take k (sorted cmp xs)
  least_again k xs =
      ap (λ ys. take k (sorted cmp ys)) (sym (append-nil (take k (sorted cmp xs))))
      ∙ least k xs [] ∙ ap (λ ys. take k (sorted cmp ys)) (append-nil xs)
