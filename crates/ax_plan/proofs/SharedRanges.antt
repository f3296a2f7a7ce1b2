-- A term is in what two unions of ranges share exactly where it is in a range of each.
use Rattle.std.proofs.Common.{◌≡◌, ℕ, List, [], ◌∷◌, ◌++◌, Bool, true, false, cond, ◌&&◌, ◌||◌, refl, sym, ap, ap₂, ◌∙◌}
use Rattle.std.proofs.lemmas.Bool.{false≢true, and_from, and_parts, and_right, false_from_ne_true}
use Rattle.std.proofs.lemmas.Cmp.{alike_right, nat_list_cmp_total}
use Rattle.std.specs.Bool.{one_answer}
use Rattle.std.specs.declared.cmp.Ordering.{Ordering}
use Rattle.std.specs.declared.cmp.Ordering.TheVariants.{Less, Equal, Greater}
use Rattle.std.specs.Ordering.{is_le, is_lt, ordering_reverse}
use Rattle.ax_term.specs.Ranges.{is_in_range}
use Rattle.ax_term.specs.TermOrder.{order_of_bytes}
use Rattle.ax_term.specs.declared.range.TermRange.{TermRange}
use Rattle.ax_atoms.specs.Spans.{is_in_some}
use Rattle.ax_plan.specs.Combining.{has_room, parts_within, shared, shared_part}

-- ---- the order of terms

module _ (x y z : List ℕ) where
  le_le : (r s : Ordering) → order_of_bytes x y ≡ r → order_of_bytes y z ≡ s → is_le r ≡ true → is_le s ≡ true
      → is_le (order_of_bytes x z) ≡ true
  le_le Less Less p q h k = ap is_le (nat_list_cmp_total.trans x y z p q)
  le_le Less Equal p q h k = ap is_le (sym (alike_right nat_list_cmp_total y z x q) ∙ p)
  le_le Less Greater p q h k = absurd (false≢true k)
  le_le Equal s p q h k = ap is_le (nat_list_cmp_total.congr x y z p ∙ q) ∙ k
  le_le Greater s p q h k = absurd (false≢true h)

  le_trans : is_le (order_of_bytes x y) ≡ true → is_le (order_of_bytes y z) ≡ true → is_le (order_of_bytes x z) ≡ true
  le_trans = le_le (order_of_bytes x y) (order_of_bytes y z) refl refl

  le_lt : (r s : Ordering) → order_of_bytes x y ≡ r → order_of_bytes y z ≡ s → is_le r ≡ true → is_lt s ≡ true
      → is_lt (order_of_bytes x z) ≡ true
  le_lt Less Less p q h k = ap is_lt (nat_list_cmp_total.trans x y z p q)
  le_lt Less Equal p q h k = absurd (false≢true k)
  le_lt Less Greater p q h k = absurd (false≢true k)
  le_lt Equal s p q h k = ap is_lt (nat_list_cmp_total.congr x y z p ∙ q) ∙ k
  le_lt Greater s p q h k = absurd (false≢true h)

  le_lt_trans : is_le (order_of_bytes x y) ≡ true → is_lt (order_of_bytes y z) ≡ true → is_lt (order_of_bytes x z) ≡ true
  le_lt_trans = le_lt (order_of_bytes x y) (order_of_bytes y z) refl refl

  lt_le : (r s : Ordering) → order_of_bytes x y ≡ r → order_of_bytes y z ≡ s → is_lt r ≡ true → is_le s ≡ true
      → is_lt (order_of_bytes x z) ≡ true
  lt_le Less Less p q h k = ap is_lt (nat_list_cmp_total.trans x y z p q)
  lt_le Less Equal p q h k = ap is_lt (sym (alike_right nat_list_cmp_total y z x q) ∙ p)
  lt_le Less Greater p q h k = absurd (false≢true k)
  lt_le Equal s p q h k = absurd (false≢true h)
  lt_le Greater s p q h k = absurd (false≢true h)

  lt_le_trans : is_lt (order_of_bytes x y) ≡ true → is_le (order_of_bytes y z) ≡ true → is_lt (order_of_bytes x z) ≡ true
  lt_le_trans = lt_le (order_of_bytes x y) (order_of_bytes y z) refl refl

turned_le : (r s : Ordering) → s ≡ ordering_reverse r → is_le r ≡ false → is_le s ≡ true
turned_le Less s e h = absurd (false≢true (sym h))
turned_le Equal s e h = absurd (false≢true (sym h))
turned_le Greater s e h = ap is_le e

not_le : (x y : List ℕ) → is_le (order_of_bytes x y) ≡ false → is_le (order_of_bytes y x) ≡ true
not_le x y = turned_le (order_of_bytes x y) (order_of_bytes y x) (nat_list_cmp_total.antisymm y x)

-- ---- two ranges

module _ (a b t : List ℕ) where
  later_by : (c : Bool) → is_le (order_of_bytes a b) ≡ c
      → is_le (order_of_bytes (cond c b a) t) ≡ (is_le (order_of_bytes a t) && is_le (order_of_bytes b t))
  later_by true e = one_answer _ _ (λ h. and_from _ _ (le_trans a b t e h) h, λ h. (and_parts _ _ h).1) (λ h. h, λ h. h)
  later_by false e = one_answer _ _ (λ h. and_from _ _ h (le_trans b a t (not_le a b e) h), λ h. (and_parts _ _ h).0) (λ h. h, λ h. h)

  earlier_by : (c : Bool) → is_le (order_of_bytes a b) ≡ c
      → is_lt (order_of_bytes t (cond c a b)) ≡ (is_lt (order_of_bytes t a) && is_lt (order_of_bytes t b))
  earlier_by true e = one_answer _ _ (λ h. and_from _ _ h (lt_le_trans t a b h e), λ h. (and_parts _ _ h).0) (λ h. h, λ h. h)
  earlier_by false e = one_answer _ _ (λ h. and_from _ _ (lt_le_trans t b a h (not_le a b e)) h, λ h. (and_parts _ _ h).1) (λ h. h, λ h. h)

crossed : (p q r s : Bool) → ((p && q) && (r && s)) ≡ ((p && r) && (q && s))
crossed true true r s = refl
crossed true false true s = refl
crossed true false false s = refl
crossed false q r s = refl

shared_part_is : (a b : TermRange) (t : List ℕ) → is_in_range (shared_part a b) t ≡ (is_in_range a t && is_in_range b t)
shared_part_is a b t =
    ap₂ (λ p q. p && q) (later_by a.from b.from t (is_le (order_of_bytes a.from b.from)) refl)
    (earlier_by a.below b.below t (is_le (order_of_bytes a.below b.below)) refl)
    ∙ crossed (is_le (order_of_bytes a.from t)) (is_le (order_of_bytes b.from t)) (is_lt (order_of_bytes t a.below))
    (is_lt (order_of_bytes t b.below))

-- nothing is in a range without room
none_without_room : (range : TermRange) (t : List ℕ) → has_room range ≡ false → is_in_range range t ≡ false
none_without_room range t e =
    false_from_ne_true (is_in_range range t) (λ h.
    let parts = and_parts (is_le (order_of_bytes range.from t)) (is_lt (order_of_bytes t range.below)) h in
    false≢true (sym e ∙ le_lt_trans range.from t range.below parts.0 parts.1))

-- ---- unions

kept : (range : TermRange) (rest : List TermRange) (t : List ℕ) (b : Bool) → has_room range ≡ b
    → is_in_some (cond b (range ∷ rest) rest) t ≡ (is_in_range range t || is_in_some rest t)
kept range rest t true e = refl
kept range rest t false e = sym (ap (λ c. c || is_in_some rest t) (none_without_room range t e))

first_of_both : (p q r : Bool) → ((p && q) || (p && r)) ≡ (p && (q || r))
first_of_both true q r = refl
first_of_both false q r = refl

parts_within_is : (range : TermRange) (others : List TermRange) (t : List ℕ)
    → is_in_some (parts_within range others) t ≡ (is_in_range range t && is_in_some others t)
parts_within_is range [] t = sym (and_right (is_in_range range t) false refl)
parts_within_is range (other ∷ others) t =
    kept (shared_part range other) (parts_within range others) t (has_room (shared_part range other)) refl
    ∙ ap₂ (λ p q. p || q) (shared_part_is range other t) (parts_within_is range others t)
    ∙ first_of_both (is_in_range range t) (is_in_range other t) (is_in_some others t)

grouped : (p q r : Bool) → ((p || q) || r) ≡ (p || (q || r))
grouped true q r = refl
grouped false q r = refl

in_either : (ranges others : List TermRange) (t : List ℕ)
    → is_in_some (ranges ++ others) t ≡ (is_in_some ranges t || is_in_some others t)
in_either [] others t = refl
in_either (range ∷ ranges) others t =
    ap (λ q. is_in_range range t || q) (in_either ranges others t)
    ∙ sym (grouped (is_in_range range t) (is_in_some ranges t) (is_in_some others t))

last_of_both : (p q r : Bool) → ((p && r) || (q && r)) ≡ ((p || q) && r)
last_of_both true q true = refl
last_of_both true true false = refl
last_of_both true false false = refl
last_of_both false q r = refl

pub shared_is : (ranges others : List TermRange) (t : List ℕ)
    → is_in_some (shared ranges others) t ≡ (is_in_some ranges t && is_in_some others t)
shared_is [] others t = refl
shared_is (range ∷ ranges) others t =
    in_either (parts_within range others) (shared ranges others) t
    ∙ ap₂ (λ p q. p || q) (parts_within_is range others t) (shared_is ranges others t)
    ∙ last_of_both (is_in_range range t) (is_in_some ranges t) (is_in_some others t)
