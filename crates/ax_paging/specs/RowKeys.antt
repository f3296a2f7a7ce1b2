-- The key of a row, which orders it among the rows of an answer: its order values, the number of its
-- document, and its place among that document's rows.
use Rattle.std.specs.Prelude.{ℕ, List, Bool}
use Rattle.std.specs.declared.cmp.Ordering.{Ordering}
use Rattle.std.specs.Ordering.{is_lt, nat_cmp, on, then_cmp}
use Rattle.std.specs.Cmp.Lexicographic.{slice_cmp}
use Rattle.std.specs.List.{filter}
use Rattle.ax_mean.specs.declared.query.KeyedRow.{KeyedRow}
use Rattle.ax_mean.specs.declared.query.Order.{Order}
use Rattle.ax_mean.specs.declared.value.Value.{Value}
use Rattle.ax_mean.specs.RowOrder.{values_cmp}

-- what a row is sorted by
pub record RowKey : Type 0 where
  pub values : List Value
  pub number : ℕ
  pub place : List ℕ

-- the key of a row
abbrev pub key_of : KeyedRow → RowKey
key_of row = record { values = row.values; number = row.number; place = row.place }

-- the order of rows, by their keys alone
abbrev pub keys_cmp : List Order → RowKey → RowKey → Ordering
keys_cmp orders =
    then_cmp (on (λ key. key.values) (values_cmp orders))
    (then_cmp (on (λ key. key.number) nat_cmp) (on (λ key. key.place) (slice_cmp nat_cmp)))

-- the row lies behind the key
abbrev pub is_behind : List Order → RowKey → KeyedRow → Bool
is_behind orders key row = is_lt (keys_cmp orders key (key_of row))

-- those of the rows that lie behind the key
abbrev pub rows_behind : List Order → RowKey → List KeyedRow → List KeyedRow
rows_behind orders key = filter (is_behind orders key)
