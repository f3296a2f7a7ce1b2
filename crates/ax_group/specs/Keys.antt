-- What the values of a group compare by: keys that are made once and take no memory to compare.
use Rattle.std.specs.Prelude.{ℕ, ℤ, List, map}
use Rattle.ax_mean.specs.declared.value.Value.{Value}
use Rattle.ax_mean.specs.ValueOrder.{rank, number_key, bytes_key}
use Rattle.ax_group.specs.declared.key.SortKey.{SortKey}
use Rattle.ax_group.specs.declared.key.GroupKey.{GroupKey}

-- where a value's kind stands, its number, and its bytes
abbrev pub Key : Type 0
Key = ℕ × ℤ × List ℕ

abbrev pub value_key : Value → Key
value_key value = (rank value, number_key value, bytes_key value)

-- a key of the code, as contracts see it
abbrev pub seen_key : SortKey → Key
seen_key key = (key.rank, key.number, key.bytes.items)

abbrev pub seen_keys : GroupKey → List Key
seen_keys key = map seen_key key.keys.items
