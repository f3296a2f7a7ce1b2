-- Of what is put together no two can be combined any more.
use Rattle.std.proofs.Common.{◌≡◌, List, [], ◌∷◌, Bool, true, false, cond, ◌&&◌, ◌||◌, Option, Some, None, refl, sym, ap, ◌∙◌, subst}
use Rattle.std.proofs.lemmas.Bool.{and_from, and_left, and_parts, both_ways, false_from_ne_true, false≢true, or_from, or_parts}
use Rattle.std.specs.Bool.{one_answer}
use Rattle.std.specs.List.{AllByRecursion, IsDistinct}
use Rattle.ax_mean.specs.declared.query.Step.{Step}
use Rattle.ax_policy.specs.Sameness.{same_path}
use Rattle.ax_policy.proofs.Orders.{path_is}
use Rattle.ax_plan.specs.Combining.{are_combined, combine, has_one_range_at_most, property_of, put, put_all, same_property}
use Rattle.ax_plan.specs.declared.sought.Sought.{Sought}

-- ---- one property

same_trans : (o p q : Option (List Step)) → same_property o p ≡ true → same_property p q ≡ true → same_property o q ≡ true
same_trans None p q h k = absurd (false≢true h)
same_trans (Some a) None q h k = absurd (false≢true h)
same_trans (Some a) (Some b) None h k = absurd (false≢true k)
same_trans (Some a) (Some b) (Some c) h k = subst (λ path. same_path path c ≡ true) (sym (path_is a b h)) k

same_back : (o p : Option (List Step)) → same_property o p ≡ true → same_property p o ≡ true
same_back None p h = absurd (false≢true h)
same_back (Some a) None h = absurd (false≢true h)
same_back (Some a) (Some b) h =
    let is : a ≡ b = path_is a b h in
    subst (λ path. same_path path a ≡ true) is (subst (λ path. same_path a path ≡ true) (sym is) h)

-- ---- in either order

either_back : (p q : Bool) → (p || q) ≡ true → (q || p) ≡ true
either_back true true h = refl
either_back true false h = refl
either_back false true h = refl
either_back false false h = h

combined_back : (a b : Sought) → are_combined a b ≡ true → are_combined b a ≡ true
combined_back a b h =
    let both = and_parts (same_property (property_of a) (property_of b)) (has_one_range_at_most a || has_one_range_at_most b) h in
    and_from (same_property (property_of b) (property_of a)) (has_one_range_at_most b || has_one_range_at_most a)
    (same_back (property_of a) (property_of b) both.0)
    (either_back (has_one_range_at_most a) (has_one_range_at_most b) both.1)

pub either_order : (a b : Sought) → are_combined a b ≡ are_combined b a
either_order a b =
    one_answer (are_combined a b) (are_combined b a) (combined_back a b, combined_back b a) (λ h. h, λ h. h)

-- ---- apart

-- of two on one property that are apart each has several ranges
several : (a b : Sought) → are_combined a b ≡ false → same_property (property_of a) (property_of b) ≡ true
    → (has_one_range_at_most a ≡ false) × (has_one_range_at_most b ≡ false)
several a b apart same =
    or_parts (has_one_range_at_most a) (has_one_range_at_most b)
    (sym (ap (λ own. own && (has_one_range_at_most a || has_one_range_at_most b)) same) ∙ apart)

module _ (x y new : Sought) (apart : are_combined x y ≡ false) (from_new : are_combined x new ≡ false)
    (combined : are_combined y new ≡ true) where
  other_property : same_property (property_of x) (property_of y) ≡ true → ⊥
  other_property same =
      let both =
      and_parts (same_property (property_of y) (property_of new)) (has_one_range_at_most y || has_one_range_at_most new) combined in
      let as_new = same_trans (property_of x) (property_of y) (property_of new) same both.0 in
      both_ways (has_one_range_at_most y || has_one_range_at_most new)
      (or_from (has_one_range_at_most y) (has_one_range_at_most new) (several x y apart same).1 (several x new from_new as_new).1)
      both.1

  still_apart : are_combined x (combine y new) ≡ false
  still_apart =
      and_left (same_property (property_of x) (property_of y)) (has_one_range_at_most x || has_one_range_at_most (combine y new))
      (false_from_ne_true (same_property (property_of x) (property_of y)) other_property)

put_apart_from : (x new : Sought) (xs : List Sought) → are_combined x new ≡ false
    → AllByRecursion (λ y. are_combined x y ≡ false) xs → AllByRecursion (λ y. are_combined x y ≡ false) (put new xs)
put_apart_from x new [] own all = (own, tt)
put_apart_from x new (y ∷ ys) own all =
    elim (are_combined y new) as
    (λ b. are_combined y new ≡ b
    → AllByRecursion (λ z. are_combined x z ≡ false) (cond b (put (combine y new) ys) (y ∷ put new ys))) [
      | true ↦ λ e. put_apart_from x (combine y new) ys (still_apart x y new all.0 own e) all.1
      | false ↦ λ e. (all.0, put_apart_from x new ys own all.1)
    ] refl

put_apart : (new : Sought) (xs : List Sought) → IsDistinct are_combined xs → IsDistinct are_combined (put new xs)
unfolding IsDistinct
put_apart new [] apart = (tt, tt)
put_apart new (x ∷ xs) apart =
    elim (are_combined x new) as
    (λ b. are_combined x new ≡ b → IsDistinct are_combined (cond b (put (combine x new) xs) (x ∷ put new xs))) [
      | true ↦ λ e. put_apart (combine x new) xs apart.1
      | false ↦ λ e. (put_apart_from x new xs e apart.0, put_apart new xs apart.1)
    ] refl

put_all_apart : (done xs : List Sought) → IsDistinct are_combined done → IsDistinct are_combined (put_all done xs)
put_all_apart done [] apart = apart
put_all_apart done (x ∷ xs) apart = put_all_apart (put x done) xs (put_apart x done apart)

pub all_apart : (xs : List Sought) → IsDistinct are_combined (put_all [] xs)
unfolding IsDistinct
all_apart xs = put_all_apart [] xs tt
