-- What a sign makes of a number.
use Rattle.std.proofs.Common.{◌≡◌, ℤ, Some, None, refl}
use Rattle.ax_tree.specs.declared.tree.Tree as tree
use Rattle.ax_mean.specs.declared.operator.UnaryOp.TheVariants as unary_op
use Rattle.ax_mean.specs.declared.value.Value.TheVariants.{Defined}
use Rattle.ax_mean.specs.Arithmetic.{negative_of}
use Rattle.ax_mean.specs.Operators.{unary}
use Rattle.ax_mean.specs.Values.{of_number}

pub minus : (n : ℤ) → unary unary_op.Minus (Defined (tree.Number n)) ≡ of_number (negative_of n)
unfolding tree.out-Tree denote.Hole.Carrier.out
minus n = refl

pub plus : (n : ℤ) → unary unary_op.Plus (Defined (tree.Number n)) ≡ of_number (Some n)
unfolding tree.out-Tree denote.Hole.Carrier.out
plus n = refl

pub not_a_sign : (n : ℤ) → unary unary_op.Not (Defined (tree.Number n)) ≡ of_number None
unfolding tree.out-Tree denote.Hole.Carrier.out
not_a_sign n = refl
