-- A list that is in order and stable to another is the insertion sort of that other: what a stable
-- sort leaves is known by these two facts alone. And sorting goes through a map that keeps the order.
use Rattle.std.proofs.Common.{◌≡◌, ℕ, ◌+◌, List, [], ◌∷◌, Bool, true, false, cond, refl, sym, ap, ◌∙◌, subst, arith, suc, map, get_or}
use Rattle.std.specs.declared.cmp.Ordering.{Ordering}
use Rattle.std.specs.Ordering.{is_lt}
use Rattle.std.specs.Prelude.{not, ◌&&◌}
use Rattle.std.specs.List.{filter}
use Rattle.std.specs.List.Sorted.{IsSortedBy, IsStableBy, ties}
use Rattle.std.specs.Cmp.{IsStrictWeakOrder}
use Rattle.ax_mean.specs.Answer.{inserted, sorted}
use Rattle.ax_rows.specs.SortKeys.{rises, rises_after}

both_not : (a b : Bool) → (not a && not b) ≡ true → (a ≡ false) × (b ≡ false)
both_not true b e = absurd (cc)
both_not false true e = absurd (cc)
both_not false false e = (refl, refl)

swapped : {X : Type 0} (p q : Bool) (x y : X) (zs : List X) → (p ≡ true → q ≡ true → ⊥)
    → cond q (y ∷ cond p (x ∷ zs) zs) (cond p (x ∷ zs) zs)
    ≡ cond p (x ∷ cond q (y ∷ zs) zs) (cond q (y ∷ zs) zs)
swapped true true x y zs h = absurd (h refl refl)
swapped true false x y zs h = refl
swapped false true x y zs h = refl
swapped false false x y zs h = refl

module _ {X : Type 0} (cmp : X → X → Ordering) (o : IsStrictWeakOrder (λ x y. is_lt (cmp x y))) where
  abbrev lt : X → X → Bool
  lt x y = is_lt (cmp x y)

  abbrev tied : X → X → Bool
  tied w = ties lt w

  -- no element of the list is below x
  abbrev pub NoneBelow : X → List X → Type 0
  NoneBelow x [] = Unit {0}
  NoneBelow x (y ∷ ys) = (lt y x ≡ false) × NoneBelow x ys

  abbrev pub Rises : List X → Type 0
  Rises [] = Unit {0}
  Rises (x ∷ xs) = NoneBelow x xs × Rises xs

  pub lowered : (w x : X) (ys : List X) → lt x w ≡ false → NoneBelow x ys → NoneBelow w ys
  lowered w x [] h a = tt
  lowered w x (y ∷ ys) h a = (o.chain y x w a.0 h, lowered w x ys h a.1)

  put_above : (w x : X) (ys : List X) → lt x w ≡ false → NoneBelow w ys → NoneBelow w (inserted cmp x ys)
  put_above w x [] h a = (h, tt)
  put_above w x (y ∷ ys) h a =
      elim (lt y x) as (λ b. NoneBelow w (cond b (y ∷ inserted cmp x ys) (x ∷ y ∷ ys)))
      [ true ↦ (a.0, put_above w x ys h a.1) | false ↦ (h, a) ]

  put_by : (x y : X) (ys : List X) (b : Bool) → lt y x ≡ b → Rises (y ∷ ys) → Rises (inserted cmp x ys)
      → Rises (cond b (y ∷ inserted cmp x ys) (x ∷ y ∷ ys))
  put_by x y ys true e r rest = (put_above y x ys (o.one_way y x e) r.0, rest)
  put_by x y ys false e r rest = ((e, lowered x y ys e r.0), r)

  rises_put : (x : X) (ys : List X) → Rises ys → Rises (inserted cmp x ys)
  rises_put x [] r = (tt, tt)
  rises_put x (y ∷ ys) r = put_by x y ys (lt y x) refl r (rises_put x ys r.1)

  pub rises_sorted : (xs : List X) → Rises (sorted cmp xs)
  rises_sorted [] = tt
  rises_sorted (x ∷ xs) = rises_put x (sorted cmp xs) (rises_sorted xs)

  not_both : (w x y : X) → lt y x ≡ true → tied w x ≡ true → tied w y ≡ true → ⊥
  not_both w x y e p q =
      let a : (lt w x ≡ false) × (lt x w ≡ false) = both_not _ _ p in
      let b : (lt w y ≡ false) × (lt y w ≡ false) = both_not _ _ q in
      let c : lt y x ≡ false = o.chain y w x b.1 a.0 in
      cc

  stable_by : (w x y : X) (ys : List X) (b : Bool) → lt y x ≡ b
      → filter (tied w) (inserted cmp x ys) ≡ filter (tied w) (x ∷ ys)
      → filter (tied w) (cond b (y ∷ inserted cmp x ys) (x ∷ y ∷ ys)) ≡ filter (tied w) (x ∷ y ∷ ys)
  stable_by w x y ys true e h =
      ap (λ zs. cond (tied w y) (y ∷ zs) zs) h
      ∙ swapped (tied w x) (tied w y) x y (filter (tied w) ys) (not_both w x y e)
  stable_by w x y ys false e h = refl

  stable_put : (w x : X) (ys : List X) → filter (tied w) (inserted cmp x ys) ≡ filter (tied w) (x ∷ ys)
  stable_put w x [] = refl
  stable_put w x (y ∷ ys) = stable_by w x y ys (lt y x) refl (stable_put w x ys)

  pub stable_sorted : (w : X) (xs : List X) → filter (tied w) (sorted cmp xs) ≡ filter (tied w) xs
  stable_sorted w [] = refl
  stable_sorted w (x ∷ xs) =
      stable_put w x (sorted cmp xs)
      ∙ ap (λ zs. cond (tied w x) (x ∷ zs) zs) (stable_sorted w xs)

  pub irreflexive : (x : X) → lt x x ≡ false
  irreflexive x = irreflexive_by x (lt x x) refl where
    irreflexive_by : (x : X) (b : Bool) → lt x x ≡ b → lt x x ≡ false
    irreflexive_by x true e = o.one_way x x e
    irreflexive_by x false e = e

  ties_itself : (x : X) → tied x x ≡ true
  ties_itself x = let e : lt x x ≡ false = irreflexive x in rw e refl

  tied_by : (w m u : X) (found us : List X) (b : Bool) → tied w u ≡ b → lt u m ≡ false
      → (filter (tied w) us ≡ found → lt w m ≡ false)
      → cond b (u ∷ filter (tied w) us) (filter (tied w) us) ≡ found → lt w m ≡ false
  tied_by w m u found us true p h later e = o.chain w u m (both_not _ _ p).0 h
  tied_by w m u found us false p h later e = later e

  -- where some element ties with w and none is below m, w is not below m
  some_tied : (w m y : X) (zs rest : List X) → NoneBelow m zs → filter (tied w) zs ≡ y ∷ rest → lt w m ≡ false
  some_tied w m y [] rest a e = absurd (cc)
  some_tied w m y (u ∷ us) rest a e =
      tied_by w m u (y ∷ rest) us (tied w u) refl a.0 (some_tied w m y us rest a.1) e

  first_tied : (y : X) (ys : List X) → filter (tied y) (y ∷ ys) ≡ y ∷ filter (tied y) ys
  first_tied y ys = let e : tied y y ≡ true = ties_itself y in rw e refl

  not_below : (y z : X) (ys zs : List X) → Rises (z ∷ zs)
      → filter (tied y) (y ∷ ys) ≡ filter (tied y) (z ∷ zs) → lt y z ≡ false
  not_below y z ys zs r e =
      some_tied y z y (z ∷ zs) (filter (tied y) ys) (irreflexive z, r.0) (sym e ∙ first_tied y ys)

  tails_by : (b : Bool) (y : X) (ys zs : List X) → cond b (y ∷ ys) ys ≡ cond b (y ∷ zs) zs → ys ≡ zs
  tails_by true y ys zs e = cc
  tails_by false y ys zs e = e

  -- two lists in order that agree on all that ties are one
  pub same : (ys zs : List X) → Rises ys → Rises zs
      → ((w : X) → filter (tied w) ys ≡ filter (tied w) zs) → ys ≡ zs
  same [] [] r s e = refl
  same [] (z ∷ zs) r s e = let f : [] ≡ z ∷ filter (tied z) zs = e z ∙ first_tied z zs in absurd (cc)
  same (y ∷ ys) [] r s e = let f : y ∷ filter (tied y) ys ≡ [] = sym (first_tied y ys) ∙ e y in absurd (cc)
  same (y ∷ ys) (z ∷ zs) r s e =
      let low : lt y z ≡ false = not_below y z ys zs s (e y) in
      let high : lt z y ≡ false = not_below z y zs ys r (sym (e z)) in
      let both : tied y z ≡ true = rw low (rw high refl) in
      let heads : y ∷ filter (tied y) ys ≡ z ∷ filter (tied y) zs =
      sym (first_tied y ys) ∙ e y ∙ rw both refl in
      let head : y ≡ z = cc in
      let tails : (w : X) → filter (tied w) ys ≡ filter (tied w) zs = λ w.
      tails_by (tied w y) y (filter (tied w) ys) (filter (tied w) zs) (e w ∙ rw head refl) in
      let rest : ys ≡ zs = same ys zs r.1 s.1 tails in
      cc

  next_place : (x : X) (xs : List X) → IsSortedBy lt (x ∷ xs) → IsSortedBy lt xs
  next_place x xs h k d low high =
      let e : suc k + 1 ≡ suc (k + 1) = omega arith in
      subst (λ (j : ℕ). lt (get_or (x ∷ xs) j d) (get_or xs k d) ≡ false) e (h (suc k) d (omega arith) (omega arith))

  pub rises_from : (xs : List X) → IsSortedBy lt xs → Rises xs
  rises_from [] h = tt
  rises_from (x ∷ []) h = (tt, tt)
  rises_from (x ∷ y ∷ ys) h =
      let r : Rises (y ∷ ys) = rises_from (y ∷ ys) (next_place x (y ∷ ys) h) in
      let e : lt y x ≡ false = h 0 x (omega arith) (omega arith) in
      ((e, lowered x y ys e r.0), r)

  and_true : (a b : Bool) → (not a && b) ≡ true → (a ≡ false) × (b ≡ true)
  and_true true b e = absurd (cc)
  and_true false b e = (refl, e)

  rises_all : (x : X) (ys : List X) → rises_after cmp x ys ≡ true → Rises (x ∷ ys)
  rises_all x [] e = (tt, tt)
  rises_all x (y ∷ ys) e =
      let both : (lt y x ≡ false) × (rises_after cmp y ys ≡ true) = and_true _ _ e in
      let r : Rises (y ∷ ys) = rises_all y ys both.1 in
      ((both.0, lowered x y ys both.0 r.0), r)

  pub rises_so : (xs : List X) → rises cmp xs ≡ true → Rises xs
  rises_so [] e = tt
  rises_so (x ∷ xs) e = rises_all x xs e

  -- what a stable sort leaves
  pub sorted_is : (xs ys : List X) → IsSortedBy lt ys → IsStableBy lt xs ys → ys ≡ sorted cmp xs
  sorted_is xs ys s t =
      same ys (sorted cmp xs) (rises_from ys s) (rises_sorted xs) (λ w. t w ∙ sym (stable_sorted w xs))

  -- a list in order stays as it is
  pub sorted_itself : (xs : List X) → Rises xs → xs ≡ sorted cmp xs
  sorted_itself xs r = same xs (sorted cmp xs) r (rises_sorted xs) (λ w. sym (stable_sorted w xs))

module _ {X Y : Type 0} (f : X → Y) (cmp : X → X → Ordering) (dmp : Y → Y → Ordering)
    (h : (a b : X) → dmp (f a) (f b) ≡ cmp a b) where
  inserted_map : (x : X) (ys : List X) → inserted dmp (f x) (map f ys) ≡ map f (inserted cmp x ys)
  inserted_map x [] = refl
  inserted_map x (y ∷ ys) =
      ap (λ r. cond (is_lt r) (f y ∷ inserted dmp (f x) (map f ys)) (f x ∷ f y ∷ map f ys)) (h y x)
      ∙ elim (is_lt (cmp y x)) as (λ b. cond b (f y ∷ inserted dmp (f x) (map f ys)) (f x ∷ f y ∷ map f ys)
      ≡ map f (cond b (y ∷ inserted cmp x ys) (x ∷ y ∷ ys)))
      [ true ↦ ap (λ zs. f y ∷ zs) (inserted_map x ys) | false ↦ refl ]

  pub sorted_map : (xs : List X) → sorted dmp (map f xs) ≡ map f (sorted cmp xs)
  sorted_map [] = refl
  sorted_map (x ∷ xs) = ap (inserted dmp (f x)) (sorted_map xs) ∙ inserted_map x (sorted cmp xs)
