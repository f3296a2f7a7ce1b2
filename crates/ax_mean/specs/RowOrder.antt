-- The order of an answer's rows: by their order values one after another, then by the number of the
-- document, then by the place from its first position. DESC reverses the order by its own value and
-- nothing else.
use Rattle.std.specs.Prelude.{List, [], ◌∷◌, Bool, true, false}
use Rattle.std.specs.declared.cmp.Ordering.{Ordering}
use Rattle.std.specs.declared.cmp.Ordering.TheVariants.{Equal}
use Rattle.std.specs.Ordering.{nat_cmp, on, then_cmp, flip_args}
use Rattle.std.specs.Cmp.Lexicographic.{slice_cmp}
use Rattle.ax_mean.specs.declared.query.KeyedRow.{KeyedRow}
use Rattle.ax_mean.specs.declared.query.Order.{Order}
use Rattle.ax_mean.specs.declared.value.Value.{Value}
use Rattle.ax_mean.specs.declared.value.Value.TheVariants.{Undefined}
use Rattle.ax_mean.specs.ValueOrder.{value_cmp}

abbrev pub directed : Bool → Value → Value → Ordering
directed false = value_cmp
directed true = flip_args value_cmp

-- the first of the values, and those after it; a value that is missing counts as undefined
abbrev pub first_value : List Value → Value
first_value [] = Undefined
first_value (value ∷ values) = value

abbrev pub later_values : List Value → List Value
later_values [] = []
later_values (value ∷ values) = values

abbrev pub values_cmp : List Order → List Value → List Value → Ordering
values_cmp [] = λ xs ys. Equal
values_cmp (order ∷ orders) =
    then_cmp (on first_value (directed order.down)) (on later_values (values_cmp orders))

abbrev pub key_cmp : List Order → KeyedRow → KeyedRow → Ordering
key_cmp orders =
    then_cmp (on (λ row. row.values) (values_cmp orders))
    (then_cmp (on (λ row. row.number) nat_cmp) (on (λ row. row.place) (slice_cmp nat_cmp)))
