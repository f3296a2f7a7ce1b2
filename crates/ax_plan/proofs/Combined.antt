-- What is put together, one by one: what holds of all of it, and what is left of each.
use Rattle.std.proofs.Common.{◌≡◌, List, [], ◌∷◌, true, false, cond, ⊎_elim, refl, sym, ◌∙◌, subst}
use Rattle.std.proofs.lemmas.Bool.{and_parts}
use Rattle.std.specs.List.{AllByRecursion, Contains}
use Rattle.ax_term.specs.declared.range.TermRange.{TermRange}
use Rattle.ax_atoms.specs.Spans.{is_in_some}
use Rattle.ax_terms.proofs.Sequences.{contains_first, contains_later, none_in_nil}
use Rattle.ax_plan.specs.Combining.{are_combined, combine, put, put_all}
use Rattle.ax_plan.specs.Terms.{IsWithin}
use Rattle.ax_plan.specs.declared.sought.Sought.{Sought}
use Rattle.ax_plan.proofs.SharedRanges.{shared_is}
use Rattle.ax_plan.proofs.Unions.{first_or_later}

-- ---- what holds of each

pub all_there : {A : Type 0} (P : A → Type 0) (xs : List A) (x : A) → AllByRecursion P xs → Contains xs x → P x
all_there P [] x all there = absurd (none_in_nil x there)
all_there P (y ∷ ys) x all there =
    ⊎_elim {C = P x} (λ (is : y ≡ x). subst P is all.0) (λ (k : Contains ys x). all_there P ys x all.1 k)
    (first_or_later y x ys there)

-- what two that are combined keep holds of all that is put together
module _ (P : Sought → Type 0) (combines : (a b : Sought) → are_combined a b ≡ true → P a → P b → P (combine a b)) where
  put_keeps : (new : Sought) → P new → (xs : List Sought) → AllByRecursion P xs → AllByRecursion P (put new xs)
  put_keeps new own [] all = (own, tt)
  put_keeps new own (x ∷ xs) all =
      elim (are_combined x new) as
      (λ b. are_combined x new ≡ b → AllByRecursion P (cond b (put (combine x new) xs) (x ∷ put new xs))) [
        | true ↦ λ e. put_keeps (combine x new) (combines x new e all.0 own) xs all.1
        | false ↦ λ e. (all.0, put_keeps new own xs all.1)
      ] refl

  pub put_all_keeps : (done xs : List Sought) → AllByRecursion P done → AllByRecursion P xs → AllByRecursion P (put_all done xs)
  put_all_keeps done [] all more = all
  put_all_keeps done (x ∷ xs) all more = put_all_keeps (put x done) xs (put_keeps x more.0 done all) more.1

-- what a combined one has of both holds of each
module _ (P : Sought → Type 0) (splits : (a b : Sought) → P (combine a b) → P a × P b) where
  put_splits : (new : Sought) (xs : List Sought) → AllByRecursion P (put new xs) → P new × AllByRecursion P xs
  put_splits new [] all = (all.0, tt)
  put_splits new (x ∷ xs) all =
      elim (are_combined x new) as
      (λ b. AllByRecursion P (cond b (put (combine x new) xs) (x ∷ put new xs)) → P new × AllByRecursion P (x ∷ xs)) [
        | true ↦ λ own.
            let s = put_splits (combine x new) xs own in
            let both = splits x new s.0 in
            (both.1, (both.0, s.1))
        | false ↦ λ own. let s = put_splits new xs own.1 in (s.0, (own.0, s.1))
      ] all

  pub put_all_splits : (done xs : List Sought) → AllByRecursion P (put_all done xs) → AllByRecursion P done × AllByRecursion P xs
  put_all_splits done [] all = (all, tt)
  put_all_splits done (x ∷ xs) all =
      let more = put_all_splits (put x done) xs all in
      let own = put_splits x done more.0 in
      (own.1, (own.0, more.1))

-- ---- what is left of each

-- one of them is within those ranges
abbrev pub Found : List Sought → List TermRange → Type 0
Found xs ranges = (s : Sought) × Contains xs s × IsWithin s.ranges ranges

within_first : (a b : Sought) → IsWithin (combine a b).ranges a.ranges
within_first a b bytes h =
    (and_parts (is_in_some a.ranges bytes) (is_in_some b.ranges bytes) (sym (shared_is a.ranges b.ranges bytes) ∙ h)).0

within_second : (a b : Sought) → IsWithin (combine a b).ranges b.ranges
within_second a b bytes h =
    (and_parts (is_in_some a.ranges bytes) (is_in_some b.ranges bytes) (sym (shared_is a.ranges b.ranges bytes) ∙ h)).1

more_found : (x : Sought) (xs : List Sought) (ranges : List TermRange) → Found xs ranges → Found (x ∷ xs) ranges
more_found x xs ranges found = (found.0, contains_later x xs found.0 found.1, found.2)

found_in_wider : (xs : List Sought) (ranges others : List TermRange) → IsWithin ranges others → Found xs ranges → Found xs others
found_in_wider xs ranges others wider found = (found.0, found.1, λ bytes h. wider bytes (found.2 bytes h))

put_new : (new : Sought) (xs : List Sought) → Found (put new xs) new.ranges
put_new new [] = (new, contains_first new [], λ bytes h. h)
put_new new (x ∷ xs) =
    elim (are_combined x new) as (λ b. Found (cond b (put (combine x new) xs) (x ∷ put new xs)) new.ranges) [
      | true ↦ found_in_wider (put (combine x new) xs) (combine x new).ranges new.ranges (within_second x new)
          (put_new (combine x new) xs)
      | false ↦ more_found x (put new xs) new.ranges (put_new new xs)
    ]

put_old : (new : Sought) (xs : List Sought) (ranges : List TermRange) → Found xs ranges → Found (put new xs) ranges
put_old new [] ranges found = absurd (none_in_nil found.0 found.1)
put_old new (x ∷ xs) ranges found =
    elim (are_combined x new) as (λ b. Found (cond b (put (combine x new) xs) (x ∷ put new xs)) ranges) [
      | true ↦ ⊎_elim {C = Found (put (combine x new) xs) ranges}
          (λ (is : x ≡ found.0).
          found_in_wider (put (combine x new) xs) (combine x new).ranges ranges
          (λ bytes h. found.2 bytes (subst (λ (s : Sought). is_in_some s.ranges bytes ≡ true) is (within_first x new bytes h)))
          (put_new (combine x new) xs))
          (λ (k : Contains xs found.0). put_old (combine x new) xs ranges (found.0, k, found.2))
          (first_or_later x found.0 xs found.1)
      | false ↦ ⊎_elim {C = Found (x ∷ put new xs) ranges}
          (λ (is : x ≡ found.0). (
            x,
            contains_first x (put new xs),
            λ bytes h. found.2 bytes (subst (λ (s : Sought). is_in_some s.ranges bytes ≡ true) is h),
          ))
          (λ (k : Contains xs found.0). more_found x (put new xs) ranges (put_old new xs ranges (found.0, k, found.2)))
          (first_or_later x found.0 xs found.1)
    ]

done_found : (done xs : List Sought) (ranges : List TermRange) → Found done ranges → Found (put_all done xs) ranges
done_found done [] ranges found = found
done_found done (x ∷ xs) ranges found = done_found (put x done) xs ranges (put_old x done ranges found)

pub each_found : (done xs : List Sought) (x : Sought) → Contains xs x → Found (put_all done xs) x.ranges
each_found done [] x there = absurd (none_in_nil x there)
each_found done (y ∷ ys) x there =
    ⊎_elim {C = Found (put_all (put y done) ys) x.ranges}
    (λ (is : y ≡ x). subst (λ (s : Sought). Found (put_all (put y done) ys) s.ranges) is
    (done_found (put y done) ys y.ranges (put_new y done)))
    (λ (k : Contains ys x). each_found (put y done) ys x k)
    (first_or_later y x ys there)
