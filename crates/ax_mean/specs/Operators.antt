-- What the operators make of their operands' values.
use Rattle.std.specs.Prelude.{◌++◌, Some, option_map, option_and_then}
use Rattle.ax_mean.specs.declared.operator.BinaryOp.{BinaryOp}
use Rattle.ax_mean.specs.declared.operator.BinaryOp.TheVariants as op
use Rattle.ax_mean.specs.declared.operator.UnaryOp.{UnaryOp}
use Rattle.ax_mean.specs.declared.operator.UnaryOp.TheVariants as unary_op
use Rattle.ax_mean.specs.declared.value.Value.{Value}
use Rattle.ax_mean.specs.declared.value.Value.TheVariants.{Undefined, Defined}
use Rattle.ax_mean.specs.Arithmetic.{arithmetic, on_number, sum_of, difference_of, product_of, quotient_of, remainder_of, negative_of}
use Rattle.ax_mean.specs.Comparison.{equality, is_not_equal, is_less, is_less_or_equal, is_greater, is_greater_or_equal}
use Rattle.ax_mean.specs.Like.{is_like}
use Rattle.ax_mean.specs.Logic.{and_of, or_of, not_of}
use Rattle.ax_mean.specs.Values.{truth_of, of_truth, text_of, of_text}

-- `a || b`: both texts joined
abbrev pub joined : Value → Value → Value
joined a b = of_text (option_and_then (λ s. option_map (λ t. s ++ t) (text_of b)) (text_of a))

-- `a ?? b`: a where it is defined, else b
abbrev pub first_defined : Value → Value → Value
first_defined Undefined b = b
first_defined (Defined a) b = Defined a

abbrev pub conjunction : Value → Value → Value
conjunction a b = of_truth (and_of (truth_of a) (truth_of b))

abbrev pub disjunction : Value → Value → Value
disjunction a b = of_truth (or_of (truth_of a) (truth_of b))

abbrev pub negation : Value → Value
negation a = of_truth (not_of (truth_of a))

abbrev pub binary : BinaryOp → Value → Value → Value
binary op.Equal a b = of_truth (equality a b)
binary op.NotEqual a b = of_truth (is_not_equal a b)
binary op.Less a b = of_truth (is_less a b)
binary op.LessEqual a b = of_truth (is_less_or_equal a b)
binary op.Greater a b = of_truth (is_greater a b)
binary op.GreaterEqual a b = of_truth (is_greater_or_equal a b)
binary op.Add a b = arithmetic sum_of a b
binary op.Subtract a b = arithmetic difference_of a b
binary op.Multiply a b = arithmetic product_of a b
binary op.Divide a b = arithmetic quotient_of a b
binary op.Remainder a b = arithmetic remainder_of a b
binary op.Join a b = joined a b
binary op.And a b = conjunction a b
binary op.Or a b = disjunction a b
binary op.Coalesce a b = first_defined a b
binary op.Like a b = of_truth (is_like a b)

abbrev pub unary : UnaryOp → Value → Value
unary unary_op.Not a = negation a
unary unary_op.Minus a = on_number negative_of a
unary unary_op.Plus a = on_number Some a
