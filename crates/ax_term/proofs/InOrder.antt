-- Values and paths decide in their order.
use Rattle.std.proofs.Common.{◌≡◌, ℕ, zero, suc, List, [], ◌∷◌, ◌++◌, Bool, true, false, length, All, refl, sym, if◌then◌else◌}
use Rattle.std.proofs.lemmas.List.Elements.{All-head, All-tail}
use Rattle.std.specs.declared.cmp.Ordering.{Ordering}
use Rattle.std.specs.declared.cmp.Ordering.TheVariants.{Equal}
use Rattle.std.specs.Int.{w64, to_be_bytes}
use Rattle.std.specs.Ordering.{ordering_then, int_cmp, bool_cmp}
use Rattle.std.specs.Cmp.Lexicographic.{slice_cmp}
use Rattle.ax_mean.specs.declared.query.Order.{Order}
use Rattle.ax_mean.specs.declared.query.Step.{Step}
use Rattle.ax_term.specs.CutValues.{CutValue}
use Rattle.ax_term.specs.Fitting.{IsValue}
use Rattle.ax_term.specs.TermBytes.{escaped, text_bytes, raised, value_bytes, step_bytes, path_bytes, column_bytes, columns_bytes, directed_bytes, values_bytes}
use Rattle.ax_term.specs.TermOrder.{order_of_bytes, order_of_texts, order_of_values, order_of_paths, order_of_columns, directed, order_of_value_lists}
use Rattle.ax_term.proofs.AllBytes.{bytes_of_value}
use Rattle.ax_term.proofs.Complemented.{decides_complemented}
use Rattle.ax_term.proofs.Decided.{Decides, decides_as, decides_both, decides_none, then_equal}
use Rattle.ax_term.proofs.Escaped.{decides_ended, decides_texts}
use Rattle.ax_term.proofs.Numbers.{decides_numbers}

-- behind one same byte
behind : (x : ℕ) (a b : List ℕ) (r : Ordering) → Decides (x ∷ []) (x ∷ []) Equal → Decides a b r
    → Decides (x ∷ a) (x ∷ b) r
behind x a b r same d = decides_both (x ∷ []) (x ∷ []) Equal a b r same (λ e. d)

pub decides_values : (a b : CutValue) → IsValue a → IsValue b
    → Decides (value_bytes a) (value_bytes b) (order_of_values a b)
decides_values (CutValue.Number a) (CutValue.Number b) h k =
    behind 20 (to_be_bytes w64 (raised a)) (to_be_bytes w64 (raised b)) (int_cmp a b)
    (record { so = λ s t. refl }) (decides_numbers a b h k)
decides_values (CutValue.Text a) (CutValue.Text b) h k =
    behind 21 (text_bytes a) (text_bytes b) (order_of_texts a b) (record { so = λ s t. refl })
    (decides_texts a b)
decides_values (CutValue.List a) (CutValue.List b) h k =
    behind 22 (text_bytes a) (text_bytes b) (order_of_texts a b) (record { so = λ s t. refl })
    (decides_texts a b)
decides_values (CutValue.Object a) (CutValue.Object b) h k =
    behind 23 (text_bytes a) (text_bytes b) (order_of_texts a b) (record { so = λ s t. refl })
    (decides_texts a b)
decides_values CutValue.Undefined CutValue.Undefined h k = record { so = λ s t. refl }
decides_values CutValue.Null CutValue.Null h k = record { so = λ s t. refl }
decides_values CutValue.False CutValue.False h k = record { so = λ s t. refl }
decides_values CutValue.True CutValue.True h k = record { so = λ s t. refl }
decides_values a b h k = record { so = λ s t. refl }

-- the names decide, and then the paths behind them
names_first : (a b : List ℕ) (p q : List Step)
    → Decides (path_bytes p) (path_bytes q) (order_of_paths p q)
    → Decides (path_bytes (Step.Name a ∷ p)) (path_bytes (Step.Name b ∷ q))
    (order_of_paths (Step.Name a ∷ p) (Step.Name b ∷ q))
names_first a b p q rest =
    decides_both (step_bytes (Step.Name a)) (step_bytes (Step.Name b)) (order_of_bytes a b)
    (path_bytes p) (path_bytes q) (order_of_paths p q)
    (behind 3 (escaped a ++ 0 ∷ 1 ∷ []) (escaped b ++ 0 ∷ 1 ∷ []) (order_of_bytes a b)
    (record { so = λ s t. refl })
    (decides_as (escaped a ++ 0 ∷ 1 ∷ []) (escaped b ++ 0 ∷ 1 ∷ [])
    (ordering_then (order_of_bytes a b) Equal) (order_of_bytes a b)
    (then_equal (order_of_bytes a b)) (decides_ended a b false false)))
    (λ e. rest)

pub decides_paths : (p q : List Step) → Decides (path_bytes p) (path_bytes q) (order_of_paths p q)
decides_paths [] [] = record { so = λ s t. refl }
decides_paths [] (Step.Item ∷ q) = record { so = λ s t. refl }
decides_paths [] (Step.Name b ∷ q) = record { so = λ s t. refl }
decides_paths (Step.Item ∷ p) [] = record { so = λ s t. refl }
decides_paths (Step.Name a ∷ p) [] = record { so = λ s t. refl }
decides_paths (Step.Item ∷ p) (Step.Item ∷ q) = record { so = λ s t. (decides_paths p q).so s t }
decides_paths (Step.Item ∷ p) (Step.Name b ∷ q) = record { so = λ s t. refl }
decides_paths (Step.Name a ∷ p) (Step.Item ∷ q) = record { so = λ s t. refl }
decides_paths (Step.Name a ∷ p) (Step.Name b ∷ q) = names_first a b p q (decides_paths p q)

directions : (down up : Bool)
    → Decides ((if down then 1 else 0) ∷ []) ((if up then 1 else 0) ∷ []) (bool_cmp down up)
directions false false = record { so = λ s t. refl }
directions false true = record { so = λ s t. refl }
directions true false = record { so = λ s t. refl }
directions true true = record { so = λ s t. refl }

decides_column : (a b : Order) → Decides (column_bytes a) (column_bytes b) (order_of_columns a b)
decides_column a b =
    decides_both ((if a.down then 1 else 0) ∷ []) ((if b.down then 1 else 0) ∷ [])
    (bool_cmp a.down b.down) (path_bytes a.path) (path_bytes b.path) (order_of_paths a.path b.path)
    (directions a.down b.down) (λ e. decides_paths a.path b.path)

zero_is_not : {A : Type 0} {n : ℕ} → zero ≡ suc n → A
zero_is_not e = absurd (let f : ⊥ = cc in f)

one_less : {m n : ℕ} → suc m ≡ suc n → m ≡ n
one_less e = cc

pub decides_columns : (p q : List Order) → length p ≡ length q
    → Decides (columns_bytes p) (columns_bytes q) (slice_cmp order_of_columns p q)
decides_columns [] [] h = decides_none
decides_columns [] (b ∷ q) h = zero_is_not h
decides_columns (a ∷ p) [] h = zero_is_not (sym h)
decides_columns (a ∷ p) (b ∷ q) h =
    decides_both (column_bytes a) (column_bytes b) (order_of_columns a b) (columns_bytes p)
    (columns_bytes q) (slice_cmp order_of_columns p q) (decides_column a b)
    (λ e. decides_columns p q (one_less h))

decides_directed : (down : Bool) (a b : CutValue) → IsValue a → IsValue b
    → Decides (directed_bytes down a) (directed_bytes down b) (directed down a b)
decides_directed false a b h k = decides_values a b h k
decides_directed true a b h k =
    decides_complemented (value_bytes a) (value_bytes b) (order_of_values b a)
    (bytes_of_value a h) (bytes_of_value b k) (decides_values b a k h)

pub decides_value_lists : (columns : List Order) (a b : List CutValue) → length a ≡ length columns
    → length b ≡ length columns → All IsValue a → All IsValue b
    → Decides (values_bytes columns a) (values_bytes columns b) (order_of_value_lists columns a b)
decides_value_lists [] [] b h k p q = decides_none
decides_value_lists [] (x ∷ a) b h k p q = zero_is_not (sym h)
decides_value_lists (column ∷ columns) [] b h k p q = zero_is_not h
decides_value_lists (column ∷ columns) (x ∷ a) [] h k p q = zero_is_not k
decides_value_lists (column ∷ columns) (x ∷ a) (y ∷ b) h k p q =
    decides_both (directed_bytes column.down x) (directed_bytes column.down y)
    (directed column.down x y) (values_bytes columns a) (values_bytes columns b)
    (order_of_value_lists columns a b)
    (decides_directed column.down x y (All-head IsValue x a p) (All-head IsValue y b q))
    (λ e. decides_value_lists columns a b (one_less h) (one_less k) (All-tail IsValue x a p)
    (All-tail IsValue y b q))
