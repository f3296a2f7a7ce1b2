-- Whether two expressions are the same: an expression is seen as the test that the same expressions
-- pass.
use Rattle.std.specs.Prelude.{ℕ, List, [], ◌∷◌, Bool, true, false, ◌&&◌, ◌==◌}
use Rattle.std.specs.Bool.{beq}
use Rattle.std.specs.Str.{bytes_eq}
use Rattle.ax_tree.specs.declared.members.Member.{Member}
use Rattle.ax_mean.specs.declared.expr.Chained.{Chained}
use Rattle.ax_mean.specs.declared.expr.Expr.{Expr, fold-Expr, out-Expr}
use Rattle.ax_mean.specs.declared.expr.Expr.TheOpen.{Expr-F}
use Rattle.ax_mean.specs.declared.expr.QueryStep.{QueryStep}
use Rattle.ax_mean.specs.declared.expr.QueryStep.TheVariants as step
use Rattle.ax_mean.specs.declared.operator.Aggregate.{Aggregate}
use Rattle.ax_mean.specs.declared.operator.Aggregate.TheVariants as aggregate
use Rattle.ax_mean.specs.declared.operator.BinaryOp.{BinaryOp}
use Rattle.ax_mean.specs.declared.operator.BinaryOp.TheVariants as op
use Rattle.ax_mean.specs.declared.operator.Func.{Func}
use Rattle.ax_mean.specs.declared.operator.Func.TheVariants as func
use Rattle.ax_mean.specs.declared.operator.UnaryOp.{UnaryOp}
use Rattle.ax_mean.specs.declared.operator.UnaryOp.TheVariants as unary_op
use Rattle.ax_mean.specs.Comparison.{is_same_value}

-- operators, functions and aggregates by their numbers
abbrev pub operator_number : BinaryOp → ℕ
operator_number op.Equal = 0
operator_number op.NotEqual = 1
operator_number op.Less = 2
operator_number op.LessEqual = 3
operator_number op.Greater = 4
operator_number op.GreaterEqual = 5
operator_number op.Add = 6
operator_number op.Subtract = 7
operator_number op.Multiply = 8
operator_number op.Divide = 9
operator_number op.Remainder = 10
operator_number op.Join = 11
operator_number op.And = 12
operator_number op.Or = 13
operator_number op.Coalesce = 14
operator_number op.Like = 15

abbrev pub sign_number : UnaryOp → ℕ
sign_number unary_op.Not = 0
sign_number unary_op.Minus = 1
sign_number unary_op.Plus = 2

abbrev pub aggregate_number : Aggregate → ℕ
aggregate_number aggregate.Count = 0
aggregate_number aggregate.Sum = 1
aggregate_number aggregate.Min = 2
aggregate_number aggregate.Max = 3

abbrev pub func_number : Func → ℕ
func_number func.IsDefined = 0
func_number func.IsNull = 1
func_number func.IsBool = 2
func_number func.IsNumber = 3
func_number func.IsString = 4
func_number func.IsArray = 5
func_number func.IsObject = 6
func_number func.IsPrimitive = 7
func_number func.Abs = 8
func_number func.Sign = 9
func_number func.Length = 10
func_number func.Concat = 11
func_number func.StartsWith = 12
func_number func.EndsWith = 13
func_number func.Contains = 14
func_number func.IndexOf = 15
func_number func.Left = 16
func_number func.Right = 17
func_number func.Substring = 18
func_number func.Reverse = 19
func_number func.ToString = 20
func_number func.ArrayLength = 21
func_number func.ArrayContains = 22
func_number func.ArrayConcat = 23
func_number func.ArraySlice = 24

abbrev pub is_same_step : QueryStep → QueryStep → Bool
is_same_step (step.Member a) (step.Member b) = bytes_eq a b
is_same_step (step.Member a) (step.Position b) = false
is_same_step (step.Position a) (step.Member b) = false
is_same_step (step.Position a) (step.Position b) = a == b

-- each element fits its partner, and there are as many
abbrev pub all_fit : {X Y : Type 0} → (X → Y → Bool) → List X → List Y → Bool
all_fit fits [] [] = true
all_fit fits [] (y ∷ ys) = false
all_fit fits (x ∷ xs) [] = false
all_fit fits (x ∷ xs) (y ∷ ys) = fits x y && all_fit fits xs ys

abbrev pub all_steps_same : List QueryStep → List QueryStep → Bool
all_steps_same = all_fit is_same_step

abbrev pub all_pass : List (Expr → Bool) → List Expr → Bool
all_pass = all_fit (λ test x. test x)

abbrev pub all_chained_pass : List (Chained (Expr → Bool)) → List (Chained Expr) → Bool
all_chained_pass = all_fit (λ test c. (operator_number test.op == operator_number c.op)
    && test.operand c.operand)

abbrev pub all_members_pass : List (Member (Expr → Bool)) → List (Member Expr) → Bool
all_members_pass = all_fit (λ test m. bytes_eq test.name m.name && test.value m.value)

abbrev pub same_level : Expr-F (Expr → Bool) → Expr-F Expr → Bool
same_level (Expr-F.Literal a) (Expr-F.Literal b) = is_same_value a b
same_level (Expr-F.Alias a) (Expr-F.Alias b) = bytes_eq a b
same_level (Expr-F.Steps test steps) (Expr-F.Steps x others) =
    test x && all_steps_same steps others
same_level (Expr-F.Choice test first second) (Expr-F.Choice x y z) =
    test x && first y && second z
same_level (Expr-F.Coalesce tests) (Expr-F.Coalesce xs) = all_pass tests xs
same_level (Expr-F.Or tests) (Expr-F.Or xs) = all_pass tests xs
same_level (Expr-F.And tests) (Expr-F.And xs) = all_pass tests xs
same_level (Expr-F.Not test) (Expr-F.Not x) = test x
same_level (Expr-F.Compare a first second) (Expr-F.Compare b x y) =
    (operator_number a == operator_number b) && first x && second y
same_level (Expr-F.Among a left tests) (Expr-F.Among b x xs) =
    beq a b && left x && all_pass tests xs
same_level (Expr-F.Between a left low high) (Expr-F.Between b x y z) =
    beq a b && left x && low y && high z
same_level (Expr-F.Like a left pattern_part) (Expr-F.Like b x y) =
    beq a b && left x && pattern_part y
same_level (Expr-F.Join tests) (Expr-F.Join xs) = all_pass tests xs
same_level (Expr-F.Sum first tests) (Expr-F.Sum x cs) = first x && all_chained_pass tests cs
same_level (Expr-F.Product first tests) (Expr-F.Product x cs) =
    first x && all_chained_pass tests cs
same_level (Expr-F.Sign a test) (Expr-F.Sign b x) = (sign_number a == sign_number b) && test x
same_level (Expr-F.Call a tests) (Expr-F.Call b xs) =
    (func_number a == func_number b) && all_pass tests xs
same_level (Expr-F.Total a test) (Expr-F.Total b x) =
    (aggregate_number a == aggregate_number b) && test x
same_level (Expr-F.List tests) (Expr-F.List xs) = all_pass tests xs
same_level (Expr-F.Object tests) (Expr-F.Object ms) = all_members_pass tests ms
same_level _ _ = false

abbrev pub is_same_expr : Expr → Expr → Bool
is_same_expr = fold-Expr (Expr → Bool) (λ level other. same_level level (out-Expr other))
