-- Sorting keeps the rows, and puts them in order.
use Rattle.std.proofs.Common.{◌≡◌, List, [], ◌∷◌, Bool, true, false, cond, refl, sym, ap, ◌∙◌}
use Rattle.std.proofs.lemmas.Bool.{false≢true}
use Rattle.std.proofs.lemmas.List.Sorted.{IsPermutation-refl, IsPermutation-sym, IsPermutation-trans, IsPermutation-cons, IsPermutation-middle}
use Rattle.std.specs.declared.cmp.Ordering.{Ordering}
use Rattle.std.specs.declared.cmp.Ordering.TheVariants.{Less, Equal, Greater}
use Rattle.std.specs.Cmp.{IsTotalOrder}
use Rattle.std.specs.List.{AllByRecursion}
use Rattle.std.specs.List.Sorted.{IsPermutation}
use Rattle.std.specs.Ordering.{is_lt, ordering_reverse}
use Rattle.ax_mean.specs.Answer.{inserted, sorted}
use Rattle.ax_result.specs.Sorting.{AreInOrder}

module _ {X : Type 0} (cmp : X → X → Ordering) where
  inserted_same : (x : X) (ys : List X) → IsPermutation (x ∷ ys) (inserted cmp x ys)
  inserted_same x [] = IsPermutation-refl (x ∷ [])
  inserted_same x (y ∷ ys) = by (is_lt (cmp y x)) (inserted_same x ys)
    where
      by : (b : Bool) → IsPermutation (x ∷ ys) (inserted cmp x ys)
          → IsPermutation (x ∷ y ∷ ys) (cond b (y ∷ inserted cmp x ys) (x ∷ y ∷ ys))
      by false further = IsPermutation-refl (x ∷ y ∷ ys)
      by true further =
          IsPermutation-trans (x ∷ y ∷ ys) (y ∷ x ∷ ys) (y ∷ inserted cmp x ys)
          (IsPermutation-sym (y ∷ x ∷ ys) (x ∷ y ∷ ys) (IsPermutation-middle (y ∷ []) x ys))
          (IsPermutation-cons y (x ∷ ys) (inserted cmp x ys) further)

  pub sorted_same : (xs : List X) → IsPermutation xs (sorted cmp xs)
  sorted_same [] = IsPermutation-refl []
  sorted_same (x ∷ xs) =
      IsPermutation-trans (x ∷ xs) (x ∷ sorted cmp xs) (inserted cmp x (sorted cmp xs))
      (IsPermutation-cons x xs (sorted cmp xs) (sorted_same xs)) (inserted_same x (sorted cmp xs))

  all_inserted : (P : X → Type 0) (x : X) (ys : List X) → P x → AllByRecursion P ys
      → AllByRecursion P (inserted cmp x ys)
  all_inserted P x [] p ps = (p, tt)
  all_inserted P x (y ∷ ys) p ps = by (is_lt (cmp y x)) (all_inserted P x ys p ps.1)
    where
      by : (b : Bool) → AllByRecursion P (inserted cmp x ys)
          → AllByRecursion P (cond b (y ∷ inserted cmp x ys) (x ∷ y ∷ ys))
      by true further = (ps.0, further)
      by false further = (p, ps)

  module _ (total : IsTotalOrder cmp) where
    turned : (a b : X) (o : Ordering) → cmp a b ≡ o → cmp b a ≡ ordering_reverse o
    turned a b o h = total.antisymm b a ∙ ap ordering_reverse h

    not_before : (x y : X) (o : Ordering) → cmp y x ≡ o → is_lt o ≡ true → is_lt (cmp x y) ≡ false
    not_before x y Less h e = ap is_lt (turned y x Less h)
    not_before x y Equal h e = ap is_lt (turned y x Equal h)
    not_before x y Greater h e = ap is_lt (turned y x Greater h) ∙ sym e

    -- behind y, which is not before x, is behind x
    not_after : (x y z : X) (o p : Ordering) → cmp y x ≡ o → cmp z y ≡ p → is_lt o ≡ false
        → is_lt p ≡ false → is_lt (cmp z x) ≡ false
    not_after x y z Less p h k e f = absurd (false≢true (sym e))
    not_after x y z Equal p h k e f =
        ap is_lt (total.antisymm z x ∙ ap ordering_reverse (sym (total.congr y x z h))
        ∙ sym (total.antisymm z y) ∙ k) ∙ f
    not_after x y z Greater Less h k e f = absurd (false≢true (sym f))
    not_after x y z Greater Equal h k e f = ap is_lt (total.congr z y x k ∙ h)
    not_after x y z Greater Greater h k e f =
        ap is_lt (turned x z Less (total.trans x y z (turned y x Greater h) (turned z y Greater k)))

    all_after : (x y : X) (zs : List X) → is_lt (cmp y x) ≡ false
        → AllByRecursion (λ z. is_lt (cmp z y) ≡ false) zs
        → AllByRecursion (λ z. is_lt (cmp z x) ≡ false) zs
    all_after x y [] h ps = tt
    all_after x y (z ∷ zs) h ps =
        (not_after x y z (cmp y x) (cmp z y) refl refl h ps.0, all_after x y zs h ps.1)

    inserted_in_order : (x : X) (ys : List X) → AreInOrder cmp ys
        → AreInOrder cmp (inserted cmp x ys)
    inserted_in_order x [] up = (tt, tt)
    inserted_in_order x (y ∷ ys) up =
        by (is_lt (cmp y x)) refl (inserted_in_order x ys up.1)
      where
        by : (b : Bool) → is_lt (cmp y x) ≡ b → AreInOrder cmp (inserted cmp x ys)
            → AreInOrder cmp (cond b (y ∷ inserted cmp x ys) (x ∷ y ∷ ys))
        by true h further = (
          all_inserted (λ z. is_lt (cmp z y) ≡ false) x ys (not_before x y (cmp y x) refl h) up.0,
          further,
        )
        by false h further = ((h, all_after x y ys h up.0), up)

    pub sorted_in_order : (xs : List X) → AreInOrder cmp (sorted cmp xs)
    sorted_in_order [] = tt
    sorted_in_order (x ∷ xs) = inserted_in_order x (sorted cmp xs) (sorted_in_order xs)
