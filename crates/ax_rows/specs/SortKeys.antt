-- What rows are sorted by: keys of their order values, made once, that take no memory to compare, and
-- of which a key of a falling order compares the other way round.
use Rattle.std.specs.Prelude.{List, [], ◌∷◌, Bool, true, false, not, ◌&&◌, Option, Some, None}
use Rattle.std.specs.declared.cmp.Ordering.{Ordering}
use Rattle.std.specs.Ordering.{nat_cmp, is_lt, on, then_cmp}
use Rattle.std.specs.Cmp.Lexicographic.{slice_cmp}
use Rattle.ax_mean.specs.declared.query.KeyedRow.{KeyedRow}
use Rattle.ax_mean.specs.declared.query.Order.{Order}
use Rattle.ax_mean.specs.declared.value.Value.{Value}
use Rattle.ax_mean.specs.declared.value.Value.TheVariants.{Undefined}
use Rattle.ax_mean.specs.RowOrder.{first_value, later_values}
use Rattle.ax_mean.specs.ValueOrder.{rank, number_key, bytes_key}
use Rattle.ax_rows.specs.declared.sort_key.SortKey.{SortKey}
use Rattle.ax_rows.specs.declared.sort_key.Directed.{Directed}
use Rattle.ax_rows.specs.declared.sort_key.Directed.TheVariants.{Up, Down}
use Rattle.ax_rows.specs.declared.ranked.Ranked.{Ranked}

abbrev pub sort_key : Value → SortKey
sort_key value = record { rank = rank value; number = number_key value; bytes = bytes_key value }

abbrev pub directed_key : Bool → Value → Directed
directed_key false value = Up (sort_key value)
directed_key true value = Down (record { 0 = sort_key value })

-- one key for each order
abbrev pub keys_of : List Order → List Value → List Directed
keys_of [] values = []
keys_of (order ∷ orders) values =
    directed_key order.down (first_value values) ∷ keys_of orders (later_values values)

abbrev pub ranked : List Order → KeyedRow → Ranked
ranked orders row = record { keys = keys_of orders row.values; row = row }

-- the order of rows by their keys, where one key compares to another by cmp
abbrev pub ranked_cmp : (Directed → Directed → Ordering) → Ranked → Ranked → Ordering
ranked_cmp cmp =
    then_cmp (on (λ r. r.keys) (slice_cmp cmp))
    (then_cmp (on (λ r. r.row.number) nat_cmp) (on (λ r. r.row.place) (slice_cmp nat_cmp)))

-- no element is below the one before it, which for the first is x
abbrev pub rises_after : {X : Type 0} → (X → X → Ordering) → X → List X → Bool
rises_after cmp x [] = true
rises_after cmp x (y ∷ ys) = not (is_lt (cmp y x)) && rises_after cmp y ys

abbrev pub rises : {X : Type 0} → (X → X → Ordering) → List X → Bool
rises cmp [] = true
rises cmp (x ∷ xs) = rises_after cmp x xs

abbrev pub value_or_undefined : Option Value → Value
value_or_undefined None = Undefined
value_or_undefined (Some value) = value
