-- In a list whose keys rise strictly, the elements behind the key of one are those that follow it.
use Rattle.std.proofs.Common.{◌≡◌, List, [], ◌∷◌, ◌++◌, Bool, true, false, cond, refl, sym, ap, ◌∙◌, subst}
use Rattle.std.specs.declared.cmp.Ordering.{Ordering}
use Rattle.std.specs.declared.cmp.Ordering.TheVariants.{Less, Equal, Greater}
use Rattle.std.specs.Ordering.{is_lt, ordering_reverse}
use Rattle.std.specs.Cmp.{IsTotalOrder}
use Rattle.std.specs.List.{filter, AllByRecursion}
use Rattle.std.proofs.lemmas.Cmp.{tied_itself}

less_of : (r : Ordering) → is_lt r ≡ true → r ≡ Less
less_of Less e = refl
less_of Equal e = absurd (let f : ⊥ = cc in f)
less_of Greater e = absurd (let f : ⊥ = cc in f)

pub each_at : {X : Type 0} (P : X → Type 0) (fs : List X) (x : X) (bs : List X)
    → AllByRecursion P (fs ++ x ∷ bs) → P x
each_at P [] x bs all = all.0
each_at P (a ∷ fs) x bs all = each_at P fs x bs all.1

-- ---- filters

passes_by : {X : Type 0} (p : X → Bool) (x : X) (ys : List X) (b : Bool) → p x ≡ b
    → AllByRecursion (λ y. p y ≡ true) ys → AllByRecursion (λ y. p y ≡ true) (cond b (x ∷ ys) ys)
passes_by p x ys true e all = (e, all)
passes_by p x ys false e all = all

each_passes : {X : Type 0} (p : X → Bool) (xs : List X) → AllByRecursion (λ y. p y ≡ true) (filter p xs)
each_passes p [] = tt
each_passes p (x ∷ xs) = passes_by p x (filter p xs) (p x) refl (each_passes p xs)

pub each_filter : {X : Type 0} (P : X → Type 0) (p : X → Bool) (xs : List X) → AllByRecursion P xs
    → AllByRecursion P (filter p xs)
each_filter P p [] all = tt
each_filter P p (x ∷ xs) all =
    elim (p x) as (λ b. AllByRecursion P (cond b (x ∷ filter p xs) (filter p xs)))
    [ true ↦ (all.0, each_filter P p xs all.1) | false ↦ each_filter P p xs all.1 ]

narrow_by : {X : Type 0} (q : X → Bool) (x : X) (ys zs : List X) (b c : Bool) → q x ≡ c
    → (c ≡ true → b ≡ true) → filter q ys ≡ zs
    → filter q (cond b (x ∷ ys) ys) ≡ cond c (x ∷ zs) zs
narrow_by q x ys zs true true is f e =
    ap (λ b. cond b (x ∷ filter q ys) (filter q ys)) is ∙ ap (λ s. x ∷ s) e
narrow_by q x ys zs true false is f e =
    ap (λ b. cond b (x ∷ filter q ys) (filter q ys)) is ∙ e
narrow_by q x ys zs false true is f e = absurd (let g : false ≡ true = f refl in cc)
narrow_by q x ys zs false false is f e = e

-- what passes the narrower test is found among what passes the wider one
filter_narrower : {X : Type 0} (p q : X → Bool) → ((x : X) → q x ≡ true → p x ≡ true) → (xs : List X)
    → filter q (filter p xs) ≡ filter q xs
filter_narrower p q f [] = refl
filter_narrower p q f (x ∷ xs) =
    narrow_by q x (filter p xs) (filter q xs) (p x) (q x) refl (f x) (filter_narrower p q f xs)

-- ---- lists whose keys rise

module _ {X K : Type 0} (key : X → K) (cmp : K → K → Ordering) (o : IsTotalOrder cmp) where
  abbrev pub behind : K → X → Bool
  behind k x = is_lt (cmp k (key x))

  abbrev pub Before : X → X → Type 0
  Before x y = cmp (key x) (key y) ≡ Less

  abbrev pub Ascends : List X → Type 0
  Ascends [] = Unit {0}
  Ascends (x ∷ xs) = AllByRecursion (Before x) xs × Ascends xs

  not_behind : (x y : X) → Before x y → behind (key y) x ≡ false
  not_behind x y h = ap is_lt (o.antisymm (key y) (key x) ∙ ap ordering_reverse h)

  not_itself : (x : X) → behind (key x) x ≡ false
  not_itself x = ap is_lt (tied_itself o (key x))

  farther : (k : K) (x z : X) → behind k x ≡ true → behind (key x) z ≡ true → behind k z ≡ true
  farther k x z a b =
      ap is_lt (o.trans k (key x) (key z) (less_of (cmp k (key x)) a) (less_of (cmp (key x) (key z)) b))

  pub ascends_filter : (p : X → Bool) (xs : List X) → Ascends xs → Ascends (filter p xs)
  ascends_filter p [] a = tt
  ascends_filter p (x ∷ xs) a =
      elim (p x) as (λ b. Ascends (cond b (x ∷ filter p xs) (filter p xs)))
      [ true ↦ (each_filter (Before x) p xs a.0, ascends_filter p xs a.1) | false ↦ ascends_filter p xs a.1 ]

  all_behind : (x : X) (ys : List X) → AllByRecursion (Before x) ys → filter (behind (key x)) ys ≡ ys
  all_behind x [] a = refl
  all_behind x (y ∷ ys) a =
      ap (λ b. cond b (y ∷ filter (behind (key x)) ys) (filter (behind (key x)) ys)) (ap is_lt a.0)
      ∙ ap (λ zs. y ∷ zs) (all_behind x ys a.1)

  pub follows : (fs : List X) (x : X) (bs : List X) → Ascends (fs ++ x ∷ bs)
      → filter (behind (key x)) (fs ++ x ∷ bs) ≡ bs
  follows [] x bs a =
      ap (λ b. cond b (x ∷ filter (behind (key x)) bs) (filter (behind (key x)) bs)) (not_itself x)
      ∙ all_behind x bs a.0
  follows (y ∷ fs) x bs a =
      ap (λ b. cond b (y ∷ filter (behind (key x)) (fs ++ x ∷ bs)) (filter (behind (key x)) (fs ++ x ∷ bs)))
      (not_behind y x (each_at (Before y) fs x bs a.0))
      ∙ follows fs x bs a.1

  -- the same among those behind another key
  pub follows_behind : (k : K) (xs fs : List X) (x : X) (bs : List X) → Ascends xs
      → filter (behind k) xs ≡ fs ++ x ∷ bs → filter (behind (key x)) xs ≡ bs
  follows_behind k xs fs x bs a e =
      let passes : behind k x ≡ true =
      each_at (λ y. behind k y ≡ true) fs x bs
      (subst (λ (ys : List X). AllByRecursion (λ y. behind k y ≡ true) ys) e (each_passes (behind k) xs)) in
      let rising : Ascends (fs ++ x ∷ bs) = subst Ascends e (ascends_filter (behind k) xs a) in
      sym (filter_narrower (behind k) (behind (key x)) (λ z h. farther k x z passes h) xs)
      ∙ ap (filter (behind (key x))) e ∙ follows fs x bs rising
