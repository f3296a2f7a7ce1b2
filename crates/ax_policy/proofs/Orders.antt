-- Paths and directions that pass the tests are equal, and equal ones pass.
use Rattle.std.proofs.Common.{◌≡◌, ℕ, ◌<◌, List, [], ◌∷◌, map, length, get_or, Bool, true, false, ◌||◌, not, zero, suc, refl, sym, ap, ◌∙◌, arith, ◌⊎◌, inl, inr}
use Rattle.std.specs.List.{list_any}
use Rattle.ax_mean.specs.declared.query.Order.{Order}
use Rattle.ax_mean.specs.declared.query.Step.{Step}
use Rattle.ax_mean.specs.declared.query.Step.TheVariants.{Name, Item}
use Rattle.ax_policy.specs.Composites.{same_step}
use Rattle.ax_policy.specs.declared.policy.Policy.{Policy}
use Rattle.ax_policy.specs.Ordering.{Fits, Orderable, offered}
use Rattle.ax_policy.specs.Sameness.{same_path, same_paths, same_truth, turned, same_ways, fits, is_orderable}
use Rattle.ax_policy.proofs.Decisions.{covered, covers_is}
use Rattle.ax_policy.proofs.Searching.{both, both_true, same_bytes, bytes_eq_same}

step_is : (a b : Step) → same_step a b ≡ true → a ≡ b
step_is (Name a) (Name b) e = ap Name (same_bytes a b e)
step_is (Name a) Item e = absurd (cc)
step_is Item (Name b) e = absurd (cc)
step_is Item Item e = refl

step_same : (a : Step) → same_step a a ≡ true
step_same (Name a) = bytes_eq_same a
step_same Item = refl

pub path_is : (a b : List Step) → same_path a b ≡ true → a ≡ b
path_is [] [] e = refl
path_is [] (t ∷ b) e = absurd (cc)
path_is (s ∷ a) [] e = absurd (cc)
path_is (s ∷ a) (t ∷ b) e =
    let parts = both (same_step s t) (same_path a b) e in
    ap (λ x. x ∷ a) (step_is s t parts.0) ∙ ap (λ l. t ∷ l) (path_is a b parts.1)

path_same : (a : List Step) → same_path a a ≡ true
path_same [] = refl
path_same (s ∷ a) = both_true (same_step s s) (same_path a a) (step_same s) (path_same a)

abbrev paths : List Order → List (List Step)
paths parts = map (λ part. part.path) parts

abbrev downs : Bool → List Order → List Bool
downs opposite parts = map (λ part. turned opposite part.down) parts

-- the first of some paths, and the others
abbrev first_path : List (List Step) → List Step
first_path [] = []
first_path (path ∷ rest) = path

abbrev others : {A : Type 0} → List A → List A
others [] = []
others (first ∷ rest) = rest

paths_are : (a b : List Order) → same_paths a b ≡ true → paths a ≡ paths b
paths_are [] [] e = refl
paths_are [] (t ∷ b) e = absurd (cc)
paths_are (s ∷ a) [] e = absurd (cc)
paths_are (s ∷ a) (t ∷ b) e =
    let parts = both (same_path s.path t.path) (same_paths a b) e in
    ap (λ x. x ∷ paths a) (path_is s.path t.path parts.0) ∙ ap (λ l. t.path ∷ l) (paths_are a b parts.1)

paths_same : (a b : List Order) → paths a ≡ paths b → same_paths a b ≡ true
paths_same [] [] e = refl
paths_same [] (t ∷ b) e = absurd (cc)
paths_same (s ∷ a) [] e = absurd (cc)
paths_same (s ∷ a) (t ∷ b) e =
    both_true (same_path s.path t.path) (same_paths a b)
    (ap (same_path s.path) (sym (ap first_path e)) ∙ path_same s.path)
    (paths_same a b (ap others e))

truth_is : (a b : Bool) → same_truth a b ≡ true → a ≡ b
truth_is true b e = sym e
truth_is false true e = absurd (cc)
truth_is false false e = refl

truth_same : (a : Bool) → same_truth a a ≡ true
truth_same true = refl
truth_same false = refl

ways_are : (opposite : Bool) (a b : List Order) → same_ways opposite a b ≡ true
    → downs opposite a ≡ map (λ order. order.down) b
ways_are opposite [] [] e = refl
ways_are opposite [] (t ∷ b) e = absurd (cc)
ways_are opposite (s ∷ a) [] e = absurd (cc)
ways_are opposite (s ∷ a) (t ∷ b) e =
    let parts = both (same_truth (turned opposite s.down) t.down) (same_ways opposite a b) e in
    ap (λ x. x ∷ downs opposite a) (truth_is (turned opposite s.down) t.down parts.0)
    ∙ ap (λ l. t.down ∷ l) (ways_are opposite a b parts.1)

abbrev first_truth : List Bool → Bool
first_truth [] = false
first_truth (b ∷ rest) = b

ways_same : (opposite : Bool) (a b : List Order) → downs opposite a ≡ map (λ order. order.down) b
    → same_ways opposite a b ≡ true
ways_same opposite [] [] e = refl
ways_same opposite [] (t ∷ b) e = absurd (cc)
ways_same opposite (s ∷ a) [] e = absurd (cc)
ways_same opposite (s ∷ a) (t ∷ b) e =
    both_true (same_truth (turned opposite s.down) t.down) (same_ways opposite a b)
    (ap (same_truth (turned opposite s.down)) (sym (ap first_truth e)) ∙ truth_same (turned opposite s.down))
    (ways_same opposite a b (ap others e))

either_way : (a b : Bool) → (a || b) ≡ true → (a ≡ true) ⊎ (b ≡ true)
either_way true b e = inl refl
either_way false b e = inr e

or_left : (a b : Bool) → a ≡ true → (a || b) ≡ true
or_left true b e = refl
or_left false b e = absurd (cc)

or_right : (a b : Bool) → b ≡ true → (a || b) ≡ true
or_right true b e = refl
or_right false b e = e

pub fits_is : (composite orders : List Order) → fits composite orders ≡ true → Fits composite orders
fits_is composite orders e =
    let parts = both (same_paths composite orders) (same_ways false composite orders || same_ways true composite orders) e in
    (paths_are composite orders parts.0, by_way (either_way (same_ways false composite orders) (same_ways true composite orders) parts.1))
  where
    by_way : (same_ways false composite orders ≡ true) ⊎ (same_ways true composite orders ≡ true)
        → (map (λ part. part.down) composite ≡ map (λ order. order.down) orders)
        ⊎ (map (λ part. not part.down) composite ≡ map (λ order. order.down) orders)
    by_way (inl e) = inl (ways_are false composite orders e)
    by_way (inr e) = inr (ways_are true composite orders e)

pub is_fit : (composite orders : List Order) → Fits composite orders → fits composite orders ≡ true
is_fit composite orders f =
    both_true (same_paths composite orders) (same_ways false composite orders || same_ways true composite orders)
    (paths_same composite orders f.0) (by_way f.1)
  where
    by_way : (map (λ part. part.down) composite ≡ map (λ order. order.down) orders)
        ⊎ (map (λ part. not part.down) composite ≡ map (λ order. order.down) orders)
        → (same_ways false composite orders || same_ways true composite orders) ≡ true
    by_way (inl e) = or_left (same_ways false composite orders) (same_ways true composite orders) (ways_same false composite orders e)
    by_way (inr e) = or_right (same_ways false composite orders) (same_ways true composite orders) (ways_same true composite orders e)

-- ---- one of some composites

pub record OneFits (composites : List (List Order)) (orders : List Order) : Type 0 where
  pub composite : List Order
  pub place : ℕ
  pub within : place < length composites
  pub there : get_or composites place composite ≡ composite
  pub fit : Fits composite orders

pub one_fits : (composites : List (List Order)) (orders : List Order)
    → list_any (λ composite. fits composite orders) composites ≡ true → OneFits composites orders
one_fits [] orders e = absurd (cc)
one_fits (first ∷ rest) orders e =
    by_place (λ k. one_fits rest orders k)
    (either_way (fits first orders) (list_any (λ composite. fits composite orders) rest) e)
  where
    by_place : (list_any (λ composite. fits composite orders) rest ≡ true → OneFits rest orders)
        → (fits first orders ≡ true) ⊎ (list_any (λ composite. fits composite orders) rest ≡ true)
        → OneFits (first ∷ rest) orders
    by_place later (inl e) = record {
      composite = first;
      place = 0;
      within = omega arith;
      there = refl;
      fit = fits_is first orders e;
    }
    by_place later (inr e) =
        let f : OneFits rest orders = later e in
        record {
          composite = f.composite;
          place = suc f.place;
          within = omega (arith, f.within);
          there = f.there;
          fit = f.fit;
        }

pub any_fits : (composites : List (List Order)) (orders composite : List Order) (place : ℕ)
    → place < length composites → get_or composites place composite ≡ composite
    → Fits composite orders → list_any (λ composite. fits composite orders) composites ≡ true
any_fits [] orders composite place w t f = absurd (omega arith)
any_fits (first ∷ rest) orders composite zero w t f =
    or_left (fits first orders) (list_any (λ composite. fits composite orders) rest)
    (ap (λ c. fits c orders) t ∙ is_fit composite orders f)
any_fits (first ∷ rest) orders composite (suc place) w t f =
    or_right (fits first orders) (list_any (λ composite. fits composite orders) rest)
    (any_fits rest orders composite place (omega arith) t f)

-- ---- orders that a policy keeps

pub orderable : (policy : Policy) (orders : List Order) → is_orderable policy orders ≡ true
    → Orderable policy orders
orderable policy [] e = tt
orderable policy (order ∷ []) e = covered policy order.path e
orderable policy (order ∷ next ∷ rest) e =
    let f : OneFits (offered policy) (order ∷ next ∷ rest) = one_fits (offered policy) (order ∷ next ∷ rest) e in
    (f.composite, (f.place, f.within, f.there), f.fit)

pub orderable_is : (policy : Policy) (orders : List Order) → Orderable policy orders
    → is_orderable policy orders ≡ true
orderable_is policy [] o = refl
orderable_is policy (order ∷ []) o = covers_is policy order.path o
orderable_is policy (order ∷ next ∷ rest) o =
    any_fits (offered policy) (order ∷ next ∷ rest) o.0 o.1.0 o.1.1 o.1.2 o.2
