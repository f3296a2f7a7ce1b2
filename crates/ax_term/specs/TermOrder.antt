-- The order of terms: ids by bytes; then plain terms by path and value; then composite terms by the
-- number of their paths, by direction and path one after another, and by the values in turn. The
-- store's own term format, docs/FORMAT.md.
use Rattle.std.specs.Prelude.{ℕ, List, ◌∷◌, Bool, true, false, length}
use Rattle.std.specs.declared.cmp.Ordering.{Ordering}
use Rattle.std.specs.declared.cmp.Ordering.TheVariants.{Less, Equal, Greater}
use Rattle.std.specs.Ordering.{nat_cmp, int_cmp, bool_cmp, on, then_cmp, flip_args, ordering_then}
use Rattle.std.specs.Cmp.Lexicographic.{slice_cmp}
use Rattle.ax_mean.specs.declared.query.Order.{Order}
use Rattle.ax_mean.specs.declared.query.Step.{Step}
use Rattle.ax_term.specs.CutTexts.{CutText}
use Rattle.ax_term.specs.CutValues.{CutValue}
use Rattle.ax_term.specs.Terms.{Term}

-- byte by byte; a list that ends comes before those that go on
abbrev pub order_of_bytes : List ℕ → List ℕ → Ordering
order_of_bytes = slice_cmp nat_cmp

-- by the bytes that were kept; of equal ones the text that ends there comes before those that go on
abbrev pub order_of_texts : CutText → CutText → Ordering
order_of_texts = then_cmp (on (λ t. t.front) order_of_bytes) (on (λ t. t.is_cut) bool_cmp)

-- the place of a value's kind, false and true apart, as in the order of whole values
abbrev pub rank : CutValue → ℕ
rank CutValue.Undefined = 0
rank CutValue.Null = 1
rank CutValue.False = 2
rank CutValue.True = 3
rank (CutValue.Number number) = 4
rank (CutValue.Text text) = 5
rank (CutValue.List text) = 6
rank (CutValue.Object text) = 7

-- by rank; numbers then by value, texts, lists and maps by what is kept of their texts
abbrev pub order_of_values : CutValue → CutValue → Ordering
order_of_values (CutValue.Number a) (CutValue.Number b) = int_cmp a b
order_of_values (CutValue.Text a) (CutValue.Text b) = order_of_texts a b
order_of_values (CutValue.List a) (CutValue.List b) = order_of_texts a b
order_of_values (CutValue.Object a) (CutValue.Object b) = order_of_texts a b
order_of_values a b = nat_cmp (rank a) (rank b)

-- the step to any element of a list comes before names, and names go by bytes
abbrev pub order_of_steps : Step → Step → Ordering
order_of_steps Step.Item Step.Item = Equal
order_of_steps Step.Item (Step.Name b) = Less
order_of_steps (Step.Name a) Step.Item = Greater
order_of_steps (Step.Name a) (Step.Name b) = order_of_bytes a b

-- step by step; a path that ends comes before those that go on
abbrev pub order_of_paths : List Step → List Step → Ordering
order_of_paths = slice_cmp order_of_steps

-- ascending before descending, then by path
abbrev pub order_of_columns : Order → Order → Ordering
order_of_columns = then_cmp (on (λ o. o.down) bool_cmp) (on (λ o. o.path) order_of_paths)

-- the fewer paths first, then path by path
abbrev pub order_of_composites : List Order → List Order → Ordering
order_of_composites = then_cmp (on length nat_cmp) (slice_cmp order_of_columns)

-- turned round where it is descending
abbrev pub directed : Bool → CutValue → CutValue → Ordering
directed false = order_of_values
directed true = flip_args order_of_values

-- value by value, each in the direction of its path
abbrev pub order_of_value_lists : List Order → List CutValue → List CutValue → Ordering
order_of_value_lists (column ∷ columns) (a ∷ later_a) (b ∷ later_b) =
    ordering_then (directed column.down a b) (order_of_value_lists columns later_a later_b)
order_of_value_lists _ _ _ = Equal

-- the place of a term's family: ids, then plain terms, then composite ones
abbrev pub family : Term → ℕ
family (Term.Id id) = 1
family (Term.Plain path value) = 2
family (Term.Composite columns values) = 3

-- by family; then by what the family has, first to last
abbrev pub order_of_terms : Term → Term → Ordering
order_of_terms (Term.Id a) (Term.Id b) = order_of_bytes a b
order_of_terms (Term.Plain p a) (Term.Plain q b) =
    ordering_then (order_of_paths p q) (order_of_values a b)
order_of_terms (Term.Composite p a) (Term.Composite q b) =
    ordering_then (order_of_composites p q) (order_of_value_lists p a b)
order_of_terms s t = nat_cmp (family s) (family t)
