-- Terms that are equal in their order are equal.
use Rattle.std.proofs.Common.{◌≡◌, ℕ, zero, suc, List, [], ◌∷◌, Bool, true, false, length, refl, sym, ap, ◌∙◌}
use Rattle.std.specs.declared.cmp.Ordering.{Ordering}
use Rattle.std.specs.declared.cmp.Ordering.TheVariants.{Less, Equal, Greater}
use Rattle.std.specs.FinMap.{IsAntisymmetric, nat_cmp-IsAntisymmetric, int_cmp-IsAntisymmetric, slice_cmp-IsAntisymmetric}
use Rattle.std.specs.Ordering.{ordering_then, nat_cmp, bool_cmp, is_eq}
use Rattle.ax_mean.specs.declared.query.Order.{Order}
use Rattle.ax_mean.specs.declared.query.Step.{Step}
use Rattle.ax_term.specs.CutValues.{CutValue}
use Rattle.ax_term.specs.Fitting.{IsTerm}
use Rattle.ax_term.specs.Terms.{Term}
use Rattle.ax_term.specs.TermOrder.{order_of_bytes, order_of_texts, rank, order_of_values, order_of_steps, order_of_paths, order_of_columns, order_of_composites, directed, order_of_value_lists, family, order_of_terms}

not_equal : {A : Type 0} (o : Ordering) → is_eq o ≡ false → o ≡ Equal → A
not_equal o apart e = absurd (let f : true ≡ false = ap is_eq (sym e) ∙ apart in let g : ⊥ = cc in g)

pub both_equal : (o p : Ordering) → ordering_then o p ≡ Equal → (o ≡ Equal) × (p ≡ Equal)
both_equal Less p h = not_equal Less refl h
both_equal Equal p h = (refl, h)
both_equal Greater p h = not_equal Greater refl h

one_bool : IsAntisymmetric bool_cmp
one_bool false false e = refl
one_bool false true e = not_equal Less refl e
one_bool true false e = not_equal Greater refl e
one_bool true true e = refl

pub one_list : IsAntisymmetric order_of_bytes
one_list = slice_cmp-IsAntisymmetric nat_cmp-IsAntisymmetric

one_text : IsAntisymmetric order_of_texts
one_text a b e =
    let parts = both_equal (order_of_bytes a.front b.front) (bool_cmp a.is_cut b.is_cut) e in
    λ i. record {
      front = one_list a.front b.front parts.0 i;
      is_cut = one_bool a.is_cut b.is_cut parts.1 i;
    }

pub one_value : IsAntisymmetric order_of_values
one_value CutValue.Undefined CutValue.Undefined e = refl
one_value CutValue.Null CutValue.Null e = refl
one_value CutValue.False CutValue.False e = refl
one_value CutValue.True CutValue.True e = refl
one_value (CutValue.Number a) (CutValue.Number b) e =
    ap CutValue.Number (int_cmp-IsAntisymmetric a b e)
one_value (CutValue.Text a) (CutValue.Text b) e = ap CutValue.Text (one_text a b e)
one_value (CutValue.List a) (CutValue.List b) e = ap CutValue.List (one_text a b e)
one_value (CutValue.Object a) (CutValue.Object b) e = ap CutValue.Object (one_text a b e)
one_value a b e = not_equal (nat_cmp (rank a) (rank b)) refl e

one_step : IsAntisymmetric order_of_steps
one_step Step.Item Step.Item e = refl
one_step Step.Item (Step.Name b) e = not_equal Less refl e
one_step (Step.Name a) Step.Item e = not_equal Greater refl e
one_step (Step.Name a) (Step.Name b) e = ap Step.Name (one_list a b e)

pub one_path : IsAntisymmetric order_of_paths
one_path = slice_cmp-IsAntisymmetric one_step

one_column : IsAntisymmetric order_of_columns
one_column a b e =
    let parts = both_equal (bool_cmp a.down b.down) (order_of_paths a.path b.path) e in
    λ i. record {
      path = one_path a.path b.path parts.1 i;
      down = one_bool a.down b.down parts.0 i;
    }

pub one_composite : (a b : List Order) → order_of_composites a b ≡ Equal → a ≡ b
one_composite a b e =
    slice_cmp-IsAntisymmetric one_column a b (both_equal (nat_cmp (length a) (length b)) _ e).1

pub same_length : (a b : List Order) → order_of_composites a b ≡ Equal → length a ≡ length b
same_length a b e = ap length (one_composite a b e)

one_directed : (down : Bool) (a b : CutValue) → directed down a b ≡ Equal → a ≡ b
one_directed false a b e = one_value a b e
one_directed true a b e = sym (one_value b a e)

zero_is_not : {A : Type 0} {n : ℕ} → zero ≡ suc n → A
zero_is_not e = absurd (let f : ⊥ = cc in f)

one_less : {m n : ℕ} → suc m ≡ suc n → m ≡ n
one_less e = cc

one_value_list : (columns : List Order) (a b : List CutValue) → length a ≡ length columns
    → length b ≡ length columns → order_of_value_lists columns a b ≡ Equal → a ≡ b
one_value_list [] [] [] h k e = refl
one_value_list [] [] (y ∷ b) h k e = zero_is_not (sym k)
one_value_list [] (x ∷ a) b h k e = zero_is_not (sym h)
one_value_list (column ∷ columns) [] b h k e = zero_is_not h
one_value_list (column ∷ columns) (x ∷ a) [] h k e = zero_is_not k
one_value_list (column ∷ columns) (x ∷ a) (y ∷ b) h k e =
    let parts = both_equal (directed column.down x y) (order_of_value_lists columns a b) e in
    let rest = one_value_list columns a b (one_less h) (one_less k) parts.1 in
    λ i. one_directed column.down x y parts.0 i ∷ rest i

pub one_term : (s t : Term) → IsTerm s → IsTerm t → order_of_terms s t ≡ Equal → s ≡ t
one_term (Term.Id a) (Term.Id b) h k e = ap Term.Id (one_list a b e)
one_term (Term.Plain p a) (Term.Plain q b) h k e =
    let parts = both_equal (order_of_paths p q) (order_of_values a b) e in
    λ i. Term.Plain (one_path p q parts.0 i) (one_value a b parts.1 i)
one_term (Term.Composite p a) (Term.Composite q b) h k e =
    let parts = both_equal (order_of_composites p q) (order_of_value_lists p a b) e in
    let same : p ≡ q = one_composite p q parts.0 in
    let values : a ≡ b = one_value_list p a b h.as_many (k.as_many ∙ sym (ap length same)) parts.1 in
    λ i. Term.Composite (same i) (values i)
one_term s t h k e = not_equal (nat_cmp (family s) (family t)) refl e
