-- The order of two values that are compared, and what the comparisons make of it.
use Rattle.std.specs.Prelude.{Bool, true, false, ◌&&◌, Option, Some, None, if◌then◌else◌}
use Rattle.std.specs.declared.cmp.Ordering.{Ordering}
use Rattle.std.specs.Ordering.{is_eq, is_ne, is_lt, is_le, is_gt, is_ge}
use Rattle.ax_mean.specs.declared.operator.BinaryOp.{BinaryOp}
use Rattle.ax_mean.specs.declared.operator.BinaryOp.TheVariants as op
use Rattle.ax_mean.specs.declared.value.Value.{Value}
use Rattle.ax_mean.specs.Comparison.{is_scalar}
use Rattle.ax_mean.specs.ValueOrder.{value_cmp}
use Rattle.ax_mean.specs.Values.{are_of_one_kind}

-- the order of two scalars of one kind
abbrev pub scalar_order : Value → Value → Option Ordering
scalar_order a b = if are_of_one_kind a b && is_scalar a then Some (value_cmp a b) else None

abbrev pub passes : (Ordering → Bool) → Option Ordering → Bool
passes test None = false
passes test (Some order) = test order

-- whether the comparison is true of scalars in that order; of other operators nothing is said
abbrev pub is_met : BinaryOp → Option Ordering → Bool
is_met op.Equal order = passes is_eq order
is_met op.NotEqual order = passes is_ne order
is_met op.Less order = passes is_lt order
is_met op.LessEqual order = passes is_le order
is_met op.Greater order = passes is_gt order
is_met op.GreaterEqual order = passes is_ge order
is_met _ order = true
