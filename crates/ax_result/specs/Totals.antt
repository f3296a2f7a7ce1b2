-- Aggregates over the rows of a group, and an expression in which each aggregate is the literal of its
-- value.
use Rattle.std.specs.Prelude.{ℕ, ℤ, pos, ◌+ℤ◌, nat_le, List, [], ◌∷◌, map, length, Bool, Option, Some, None, option_and_then, if◌then◌else◌}
use Rattle.std.specs.List.{filter, list_any}
use Rattle.std.specs.Ordering.{is_lt}
use Rattle.ax_tree.specs.declared.tree.Tree as tree
use Rattle.ax_tree.specs.declared.members.Member.{Member}
use Rattle.ax_mean.specs.declared.expr.Chained.{Chained}
use Rattle.ax_mean.specs.declared.expr.Expr.{Expr, fold-Expr}
use Rattle.ax_mean.specs.declared.expr.Expr.TheFolds.{map-Expr}
use Rattle.ax_mean.specs.declared.expr.Expr.TheOpen.{Expr-F}
use Rattle.ax_mean.specs.declared.expr.Expr.TheViews.{roll-Expr}
use Rattle.ax_mean.specs.declared.expr.Expr.TheVariants as expr
use Rattle.ax_mean.specs.declared.operator.Aggregate.{Aggregate}
use Rattle.ax_mean.specs.declared.operator.Aggregate.TheVariants as aggregate
use Rattle.ax_mean.specs.declared.value.Value.{Value}
use Rattle.ax_mean.specs.declared.value.Value.TheVariants.{Undefined, Defined}
use Rattle.ax_mean.specs.Arithmetic.{in_64_bits}
use Rattle.ax_mean.specs.Meaning.{Env, chain, meaning}
use Rattle.ax_mean.specs.ValueOrder.{value_cmp}
use Rattle.ax_mean.specs.Values.{is_defined, kind, number_of, of_number}

-- COUNT: how many values are defined; undefined above 2^63 - 1.
-- SUM: the exact sum of those that are defined, 0 of none; undefined where one of them is no number,
-- where there are more than 2^63 - 1, and where the sum is outside 64 bits.
-- MIN, MAX: the least and the greatest of those that are defined, by the order of values; undefined
-- where there is none, and where one of them is a list or a map.
abbrev pub greatest_number : ℕ
greatest_number = 9223372036854775807

abbrev pub counted : ℕ → Value
counted n = if nat_le n greatest_number then Defined (tree.Number (pos n)) else Undefined

-- the numbers that the values are, where all are numbers
abbrev pub and_number : Option ℤ → Option (List ℤ) → Option (List ℤ)
and_number None numbers = None
and_number (Some number) None = None
and_number (Some number) (Some numbers) = Some (number ∷ numbers)

abbrev pub numbers_of : List Value → Option (List ℤ)
numbers_of [] = Some []
numbers_of (value ∷ values) = and_number (number_of value) (numbers_of values)

abbrev pub exact_sum : List ℤ → ℤ
exact_sum [] = pos 0
exact_sum (number ∷ numbers) = number +ℤ exact_sum numbers

abbrev pub summed : List Value → Value
summed values =
    if nat_le (length values) greatest_number
    then of_number (option_and_then (λ numbers. in_64_bits (exact_sum numbers)) (numbers_of values))
    else Undefined

-- the first of two values, unless the other comes before it, or after it
abbrev pub lesser : Value → Value → Value
lesser a b = if is_lt (value_cmp b a) then b else a

abbrev pub greater : Value → Value → Value
greater a b = if is_lt (value_cmp a b) then b else a

-- a list or a map
abbrev pub is_composed : Value → Bool
is_composed value = nat_le 5 (kind value)

-- MIN and MAX, by which of two values is kept
abbrev pub outermost : (Value → Value → Value) → List Value → Value
outermost f values = if list_any is_composed values then Undefined else chain f values

abbrev pub aggregate_of_defined : Aggregate → List Value → Value
aggregate_of_defined aggregate.Count values = counted (length values)
aggregate_of_defined aggregate.Sum values = summed values
aggregate_of_defined aggregate.Min values = outermost lesser values
aggregate_of_defined aggregate.Max values = outermost greater values

-- the aggregate of the values that an expression has in the rows of a group
abbrev pub aggregate_of : Aggregate → List Value → Value
aggregate_of which values = aggregate_of_defined which (filter is_defined values)

abbrev pub total_over : List Env → Aggregate → Expr → Value
total_over envs which argument = aggregate_of which (map (λ env. meaning env argument) envs)

-- The expression that a level is, where its children are seen as they are and as what they come to.
abbrev pub as_it_is : {X : Type 0} → Expr-F (Expr × X) → Expr
as_it_is {X} level = roll-Expr (map-Expr (Expr × X) Expr (λ child. child.0) level)

abbrev pub beside : {X : Type 0} → (Expr-F (Expr × X) → X) → Expr-F (Expr × X) → Expr × X
beside f level = (as_it_is level, f level)

-- an expression as it is and as what it comes to, by what its levels come to
abbrev pub pair_by : {X : Type 0} → (Expr-F (Expr × X) → X) → Expr → Expr × X
pair_by {X} f = fold-Expr (Expr × X) (beside f)

-- what children become, in a list, behind operators and as members
abbrev pub become : List (Expr × Expr) → List Expr
become = map (λ child. child.1)

abbrev pub operands_become : List (Chained (Expr × Expr)) → List (Chained Expr)
operands_become = map (λ c. record { op = c.op; operand = c.operand.1 })

abbrev pub members_become : List (Member (Expr × Expr)) → List (Member Expr)
members_become = map (λ m. record { name = m.name; value = m.value.1 })

-- an aggregate becomes the literal of its value, and all else stays as it is
abbrev pub as_it_becomes : List Env → Expr-F (Expr × Expr) → Expr
as_it_becomes envs (Expr-F.Literal value) = expr.Literal value
as_it_becomes envs (Expr-F.Alias name) = expr.Alias name
as_it_becomes envs (Expr-F.Steps base steps) = expr.Steps base.1 steps
as_it_becomes envs (Expr-F.Choice test a b) = expr.Choice test.1 a.1 b.1
as_it_becomes envs (Expr-F.Coalesce items) = expr.Coalesce (become items)
as_it_becomes envs (Expr-F.Or items) = expr.Or (become items)
as_it_becomes envs (Expr-F.And items) = expr.And (become items)
as_it_becomes envs (Expr-F.Not a) = expr.Not a.1
as_it_becomes envs (Expr-F.Compare operator a b) = expr.Compare operator a.1 b.1
as_it_becomes envs (Expr-F.Among negated left items) = expr.Among negated left.1 (become items)
as_it_becomes envs (Expr-F.Between negated left low high) =
    expr.Between negated left.1 low.1 high.1
as_it_becomes envs (Expr-F.Like negated left other) = expr.Like negated left.1 other.1
as_it_becomes envs (Expr-F.Join items) = expr.Join (become items)
as_it_becomes envs (Expr-F.Sum first rest) = expr.Sum first.1 (operands_become rest)
as_it_becomes envs (Expr-F.Product first rest) = expr.Product first.1 (operands_become rest)
as_it_becomes envs (Expr-F.Sign operator a) = expr.Sign operator a.1
as_it_becomes envs (Expr-F.Call func args) = expr.Call func (become args)
as_it_becomes envs (Expr-F.Total which argument) =
    expr.Literal (total_over envs which argument.0)
as_it_becomes envs (Expr-F.List items) = expr.List (become items)
as_it_becomes envs (Expr-F.Object members) = expr.Object (members_become members)

abbrev pub with_totals : List Env → Expr → Expr
with_totals envs x = (pair_by (as_it_becomes envs) x).1
