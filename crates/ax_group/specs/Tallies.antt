-- What is kept of an aggregate's values, one after another, so that the values themselves need not be.
use Rattle.std.specs.Prelude.{ℕ, ℤ, pos, ◌+◌, nat_le, List, [], ◌∷◌, Option, Some, None, if◌then◌else◌}
use Rattle.ax_tree.specs.declared.tree.Tree.{Tree}
use Rattle.ax_mean.specs.declared.operator.Aggregate.{Aggregate}
use Rattle.ax_mean.specs.declared.operator.Aggregate.TheVariants as aggregate
use Rattle.ax_mean.specs.declared.value.Value.{Value}
use Rattle.ax_mean.specs.declared.value.Value.TheVariants.{Undefined, Defined}
use Rattle.ax_mean.specs.Arithmetic.{in_64_bits}
use Rattle.ax_mean.specs.Values.{number_of, of_number}
use Rattle.ax_group.specs.declared.tally.Tally.{Tally}
use Rattle.ax_group.specs.declared.tally.Tally.TheVariants as tally
use Rattle.ax_result.specs.Totals.{greatest_number, counted, lesser, greater, is_composed}
use Rattle.ax_group.specs.Sums.{sum_with}

abbrev pub start : Aggregate → Tally
start aggregate.Count = tally.Count 0
start aggregate.Sum = tally.Sum (0, pos 0)
start aggregate.Min = tally.Least Undefined
start aggregate.Max = tally.Greatest Undefined

-- a count that stops above the greatest
abbrev pub one_more : ℕ → ℕ
one_more n = if nat_le n greatest_number then n + 1 else n

abbrev pub of_sum : Option (ℕ × ℤ) → Tally
of_sum None = tally.Undefined
of_sum (Some s) = tally.Sum s

abbrev pub sum_more : ℕ × ℤ → Option ℤ → Tally
sum_more s None = tally.Undefined
sum_more s (Some number) = of_sum (sum_with s number)

abbrev pub least_with : Value → Value → Value
least_with Undefined value = value
least_with (Defined best) value = lesser (Defined best) value

abbrev pub greatest_with : Value → Value → Value
greatest_with Undefined value = value
greatest_with (Defined best) value = greater (Defined best) value

abbrev pub least_more : Value → Value → Tally
least_more best value =
    if is_composed value then tally.Undefined else tally.Least (least_with best value)

abbrev pub greatest_more : Value → Value → Tally
greatest_more best value =
    if is_composed value then tally.Undefined else tally.Greatest (greatest_with best value)

abbrev pub with_tree : Tally → Tree → Tally
with_tree (tally.Count n) tree = tally.Count (one_more n)
with_tree (tally.Sum s) tree = sum_more s (number_of (Defined tree))
with_tree (tally.Least best) tree = least_more best (Defined tree)
with_tree (tally.Greatest best) tree = greatest_more best (Defined tree)
with_tree (tally.First value) tree = tally.First value
with_tree tally.Undefined tree = tally.Undefined

-- the tally with one value more
abbrev pub tally_with : Tally → Value → Tally
tally_with t Undefined = t
tally_with t (Defined tree) = with_tree t tree

abbrev pub tally_from : Tally → List Value → Tally
tally_from t [] = t
tally_from t (value ∷ values) = tally_from (tally_with t value) values

abbrev pub tally_of : Aggregate → List Value → Tally
tally_of which values = tally_from (start which) values

-- the aggregate that a tally comes to
abbrev pub value_of : Tally → Value
value_of (tally.Count n) = counted n
value_of (tally.Sum s) = of_number (in_64_bits s.1)
value_of (tally.Least best) = best
value_of (tally.Greatest best) = best
value_of (tally.First value) = value
value_of tally.Undefined = Undefined
