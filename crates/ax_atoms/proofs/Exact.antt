-- A range between two plain terms has the terms that are between them: those of one path where both
-- terms are of that path.
use Rattle.std.proofs.Common.{◌≡◌, ℕ, zero, suc, List, [], ◌∷◌, ◌++◌, Bool, true, false, refl, sym, ap, ◌∙◌, subst, arith}
use Rattle.std.proofs.lemmas.Bool.{false≢true, and_parts}
use Rattle.std.proofs.lemmas.Cmp.{tied_itself, int_cmp_total, nat_list_cmp_total, then_total, on_total}
use Rattle.std.specs.Cmp.{IsTotalOrder, bool_cmp_total}
use Rattle.std.specs.declared.cmp.Ordering.{Ordering}
use Rattle.std.specs.declared.cmp.Ordering.TheVariants.{Less, Equal, Greater}
use Rattle.std.specs.Ordering.{ordering_reverse, ordering_then, nat_cmp, is_le, is_lt}
use Rattle.ax_mean.specs.declared.query.Step.{Step}
use Rattle.ax_mean.specs.declared.query.Step.TheVariants as step
use Rattle.ax_term.specs.CutTexts.{CutText}
use Rattle.ax_term.specs.CutValues.{CutValue}
use Rattle.ax_term.specs.Ranges.{is_in_range}
use Rattle.ax_term.specs.TermBytes.{term_bytes}
use Rattle.ax_term.specs.TermOrder.{order_of_bytes, order_of_paths, order_of_steps, order_of_texts, order_of_values}
use Rattle.ax_term.specs.Terms.{Term}
use Rattle.ax_term.proofs.Decided.{greater}
use Rattle.ax_term.proofs.OneTerm.{one_path, one_value}
use Rattle.ax_atoms.specs.Spans.{before, up_to}
use Rattle.ax_atoms.proofs.Between.{IsFit, at_path, in_before, in_up_to, plain_order}

-- ---- up to bytes, and with them

closed_then : (o p q : Ordering) → is_lt p ≡ is_le q → is_lt (ordering_then o p) ≡ is_le (ordering_then o q)
closed_then Less p q h = refl
closed_then Equal p q h = h
closed_then Greater p q h = refl

none_below : (x : ℕ) (t : List ℕ) → is_lt (order_of_bytes (x ∷ t) (0 ∷ [])) ≡ false
none_below zero [] = refl
none_below zero (y ∷ t) = refl
none_below (suc x) t =
    ap (λ o. is_lt (ordering_then o (order_of_bytes t []))) (greater (suc x) 0 (omega arith))

-- what is before bytes with a 00 behind them is not behind the bytes
pub closed : (t l : List ℕ) → is_lt (order_of_bytes t (l ++ 0 ∷ [])) ≡ is_le (order_of_bytes t l)
closed [] [] = refl
closed [] (y ∷ l) = refl
closed (x ∷ t) [] = none_below x t
closed (x ∷ t) (y ∷ l) =
    closed_then (nat_cmp x y) (order_of_bytes t (l ++ 0 ∷ [])) (order_of_bytes t l) (closed t l)

-- ---- orders turned round

reverse_then : (o p q r : Ordering) → q ≡ ordering_reverse o → r ≡ ordering_reverse p
    → ordering_then q r ≡ ordering_reverse (ordering_then o p)
reverse_then Less p q r h k = ap (λ o. ordering_then o r) h
reverse_then Equal p q r h k = ap (λ o. ordering_then o r) h ∙ k
reverse_then Greater p q r h k = ap (λ o. ordering_then o r) h

texts_total : IsTotalOrder order_of_texts
texts_total = then_total (on_total (λ (t : CutText). t.front) nat_list_cmp_total) (on_total (λ (t : CutText). t.is_cut) bool_cmp_total)

pub values_back : (a b : CutValue) → order_of_values b a ≡ ordering_reverse (order_of_values a b)
values_back (CutValue.Number a) (CutValue.Number b) = int_cmp_total.antisymm b a
values_back (CutValue.Text a) (CutValue.Text b) = texts_total.antisymm b a
values_back (CutValue.List a) (CutValue.List b) = texts_total.antisymm b a
values_back (CutValue.Object a) (CutValue.Object b) = texts_total.antisymm b a
values_back CutValue.Undefined CutValue.Undefined = refl
values_back CutValue.Null CutValue.Null = refl
values_back CutValue.False CutValue.False = refl
values_back CutValue.True CutValue.True = refl
values_back a b = refl

pub steps_back : (a b : Step) → order_of_steps b a ≡ ordering_reverse (order_of_steps a b)
steps_back step.Item step.Item = refl
steps_back step.Item (step.Name b) = refl
steps_back (step.Name a) step.Item = refl
steps_back (step.Name a) (step.Name b) = nat_list_cmp_total.antisymm b a

pub paths_back : (p q : List Step) → order_of_paths q p ≡ ordering_reverse (order_of_paths p q)
paths_back [] [] = refl
paths_back [] (t ∷ q) = refl
paths_back (s ∷ p) [] = refl
paths_back (s ∷ p) (t ∷ q) =
    reverse_then (order_of_steps s t) (order_of_paths p q) (order_of_steps t s) (order_of_paths q p)
    (steps_back s t) (paths_back p q)

-- ---- between two

-- one that is not before another and not behind it is equal to it
pub both_ways : (o r : Ordering) → r ≡ ordering_reverse o → is_le o ≡ true → is_le r ≡ true → o ≡ Equal
both_ways Less r e h k = absurd (false≢true (sym (ap is_le e) ∙ k))
both_ways Equal r e h k = refl
both_ways Greater r e h k = absurd (false≢true h)

pub lt_is_le : (o : Ordering) → is_lt o ≡ true → is_le o ≡ true
lt_is_le Less h = refl
lt_is_le Equal h = absurd (false≢true h)
lt_is_le Greater h = absurd (false≢true h)

-- where two are compared, and where the first is equal two others, the first is not behind
pub first_le : (o p : Ordering) → is_le (ordering_then o p) ≡ true → is_le o ≡ true
first_le Less p h = refl
first_le Equal p h = refl
first_le Greater p h = absurd (false≢true h)

pub second_le : (o p : Ordering) → o ≡ Equal → ordering_then o p ≡ p
second_le o p e = ap (λ q. ordering_then q p) e

abbrev first_of : List Step → CutValue → List ℕ
first_of path value = term_bytes (Term.Plain path value)

-- a term that is not before one of a path, and not behind another of it, is of that path
same_path : (p q : List Step) (x y : Ordering)
    → is_le (ordering_then (order_of_paths p q) x) ≡ true
    → is_le (ordering_then (order_of_paths q p) y) ≡ true → order_of_paths p q ≡ Equal
same_path p q x y h k =
    both_ways (order_of_paths p q) (order_of_paths q p) (paths_back p q) (first_le _ x h) (first_le _ y k)

equal_back : (p q : List Step) → order_of_paths p q ≡ Equal → order_of_paths q p ≡ Equal
equal_back p q e = paths_back p q ∙ ap ordering_reverse e

-- the path, and the values between which it is
pub record IsBetween (p q : List Step) (a b v : CutValue) (test : Ordering → Bool) : Type 0 where
  pub path : q ≡ p
  pub low : is_le (order_of_values a v) ≡ true
  pub high : test (order_of_values v b) ≡ true

pub from_up_to : (p q : List Step) (a b v : CutValue) → IsFit a → IsFit b → IsFit v
    → is_in_range (up_to (Term.Plain p a) (Term.Plain p b)) (first_of q v) ≡ true
    → IsBetween p q a b v is_le
from_up_to p q a b v fa fb fv h =
    let parts = and_parts (is_le (order_of_bytes (first_of p a) (first_of q v)))
    (is_lt (order_of_bytes (first_of q v) (first_of p b ++ 0 ∷ []))) h in
    let low : is_le (ordering_then (order_of_paths p q) (order_of_values a v)) ≡ true =
    ap is_le (sym (plain_order p q a v fa fv)) ∙ parts.0 in
    let high : is_le (ordering_then (order_of_paths q p) (order_of_values v b)) ≡ true =
    ap is_le (sym (plain_order q p v b fv fb)) ∙ sym (closed (first_of q v) (first_of p b)) ∙ parts.1 in
    let e = same_path p q (order_of_values a v) (order_of_values v b) low high in
    record {
      path = sym (one_path p q e);
      low = sym (ap is_le (second_le (order_of_paths p q) (order_of_values a v) e)) ∙ low;
      high = sym (ap is_le (second_le (order_of_paths q p) (order_of_values v b) (equal_back p q e))) ∙ high;
    }

pub to_up_to : (p q : List Step) (a b v : CutValue) → IsFit a → IsFit b → IsFit v
    → IsBetween p q a b v is_le
    → is_in_range (up_to (Term.Plain p a) (Term.Plain p b)) (first_of q v) ≡ true
to_up_to p q a b v fa fb fv h =
    subst (λ r. is_in_range (up_to (Term.Plain p a) (Term.Plain p b)) (first_of r v) ≡ true) (sym h.path)
    (in_up_to (first_of p a) (first_of p b) (first_of p v)
    (ap is_le (at_path p a v fa fv) ∙ h.low) (ap is_le (at_path p v b fv fb) ∙ h.high))

pub from_before : (p q : List Step) (a b v : CutValue) → IsFit a → IsFit b → IsFit v
    → is_in_range (before (Term.Plain p a) (Term.Plain p b)) (first_of q v) ≡ true
    → IsBetween p q a b v is_lt
from_before p q a b v fa fb fv h =
    let parts = and_parts (is_le (order_of_bytes (first_of p a) (first_of q v)))
    (is_lt (order_of_bytes (first_of q v) (first_of p b))) h in
    let low : is_le (ordering_then (order_of_paths p q) (order_of_values a v)) ≡ true =
    ap is_le (sym (plain_order p q a v fa fv)) ∙ parts.0 in
    let high : is_lt (ordering_then (order_of_paths q p) (order_of_values v b)) ≡ true =
    ap is_lt (sym (plain_order q p v b fv fb)) ∙ parts.1 in
    let e = same_path p q (order_of_values a v) (order_of_values v b) low (lt_is_le _ high) in
    record {
      path = sym (one_path p q e);
      low = sym (ap is_le (second_le (order_of_paths p q) (order_of_values a v) e)) ∙ low;
      high = sym (ap is_lt (second_le (order_of_paths q p) (order_of_values v b) (equal_back p q e))) ∙ high;
    }

pub to_before : (p q : List Step) (a b v : CutValue) → IsFit a → IsFit b → IsFit v
    → IsBetween p q a b v is_lt
    → is_in_range (before (Term.Plain p a) (Term.Plain p b)) (first_of q v) ≡ true
to_before p q a b v fa fb fv h =
    subst (λ r. is_in_range (before (Term.Plain p a) (Term.Plain p b)) (first_of r v) ≡ true) (sym h.path)
    (in_before (first_of p a) (first_of p b) (first_of p v)
    (ap is_le (at_path p a v fa fv) ∙ h.low) (ap is_lt (at_path p v b fv fb) ∙ h.high))

-- one value alone
pub alone_is : (a v : CutValue) → is_le (order_of_values a v) ≡ true → is_le (order_of_values v a) ≡ true → v ≡ a
alone_is a v h k =
    sym (one_value a v (both_ways (order_of_values a v) (order_of_values v a) (values_back a v) h k))

-- a value is not behind itself
pub itself : (a : CutValue) → is_le (order_of_values a a) ≡ true
itself CutValue.Undefined = refl
itself CutValue.Null = refl
itself CutValue.False = refl
itself CutValue.True = refl
itself (CutValue.Number n) = ap is_le (tied_itself int_cmp_total n)
itself (CutValue.Text t) = ap is_le (tied_itself texts_total t)
itself (CutValue.List t) = ap is_le (tied_itself texts_total t)
itself (CutValue.Object t) = ap is_le (tied_itself texts_total t)
