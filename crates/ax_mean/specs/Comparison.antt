-- Comparing two values, as in the query language of Azure Cosmos DB for NoSQL: across kinds, and with
-- undefined, every comparison is undefined. False and true are of one kind. Two lists, or two maps,
-- have no order: of those only `=` is defined.
use Rattle.std.specs.Prelude.{Bool, true, false, ◌&&◌, nat_le, Option, Some, None, if◌then◌else◌}
use Rattle.std.specs.declared.cmp.Ordering.{Ordering}
use Rattle.std.specs.Ordering.{is_ne, is_lt, is_le, is_gt, is_ge}
use Rattle.ax_mean.specs.declared.value.Value.{Value}
use Rattle.ax_mean.specs.declared.value.Value.TheVariants.{Undefined, Defined}
use Rattle.ax_mean.specs.Sameness.{is_same}
use Rattle.ax_mean.specs.ValueOrder.{value_cmp}
use Rattle.ax_mean.specs.Values.{kind, are_of_one_kind}

abbrev pub is_same_value : Value → Value → Bool
is_same_value Undefined Undefined = true
is_same_value Undefined (Defined b) = false
is_same_value (Defined a) Undefined = false
is_same_value (Defined a) (Defined b) = is_same a b

-- `a = b`
abbrev pub equality : Value → Value → Option Bool
equality a b = if are_of_one_kind a b then Some (is_same_value a b) else None

-- null, a truth value, a number or a text
abbrev pub is_scalar : Value → Bool
is_scalar value = nat_le 1 (kind value) && nat_le (kind value) 4

-- a comparison by the order of values
abbrev pub comparison : (Ordering → Bool) → Value → Value → Option Bool
comparison test a b =
    if are_of_one_kind a b && is_scalar a then Some (test (value_cmp a b)) else None

abbrev pub is_not_equal : Value → Value → Option Bool
is_not_equal = comparison is_ne

abbrev pub is_less : Value → Value → Option Bool
is_less = comparison is_lt

abbrev pub is_less_or_equal : Value → Value → Option Bool
is_less_or_equal = comparison is_le

abbrev pub is_greater : Value → Value → Option Bool
is_greater = comparison is_gt

abbrev pub is_greater_or_equal : Value → Value → Option Bool
is_greater_or_equal = comparison is_ge
