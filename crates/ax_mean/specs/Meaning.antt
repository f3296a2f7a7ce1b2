-- The meaning of an expression: the value that it has where each alias stands for a value. Parameters
-- are literals. An aggregate has its meaning over the rows of a group, and is undefined here.
use Rattle.std.specs.Prelude.{ℕ, List, [], ◌∷◌, map, Bool, true, false, Option, if◌then◌else◌}
use Rattle.std.specs.Str.{bytes_eq}
use Rattle.ax_tree.specs.declared.tree.Tree as tree
use Rattle.ax_mean.specs.declared.expr.Chained.{Chained}
use Rattle.ax_mean.specs.declared.expr.Expr.{Expr, fold-Expr}
use Rattle.ax_mean.specs.declared.expr.Expr.TheOpen.{Expr-F}
use Rattle.ax_mean.specs.declared.operator.BinaryOp.TheVariants as op
use Rattle.ax_mean.specs.declared.value.Value.{Value}
use Rattle.ax_mean.specs.declared.value.Value.TheVariants.{Undefined, Defined}
use Rattle.ax_mean.specs.Building.{defined_of, members_of}
use Rattle.ax_mean.specs.Functions.{call}
use Rattle.ax_mean.specs.Operators.{binary, unary, joined, first_defined, conjunction, disjunction, negation}
use Rattle.ax_mean.specs.Steps.{steps_from}
use Rattle.ax_mean.specs.Values.{truth_of}

-- aliases, each with its value
abbrev pub Env : Type 0
Env = List (List ℕ × Value)

-- the value of an alias
abbrev pub bound : Env → List ℕ → Value
bound [] name = Undefined
bound ((alias, value) ∷ env) name = if bytes_eq alias name then value else bound env name

-- whether a value is true
abbrev pub is_yes : Option Bool → Bool
is_yes Option.None = false
is_yes (Option.Some truth) = truth

-- `a ? b : c`
abbrev pub chosen : Value → Value → Value → Value
chosen test a b = if is_yes (truth_of test) then a else b

-- a chain of one operator, read from the left
abbrev pub along : (Value → Value → Value) → Value → List Value → Value
along f first [] = first
along f first (value ∷ values) = along f (f first value) values

abbrev pub chain : (Value → Value → Value) → List Value → Value
chain f [] = Undefined
chain f (value ∷ values) = along f value values

-- a chain with its operators
abbrev pub operated : Value → List (Chained Value) → Value
operated first [] = first
operated first (c ∷ cs) = operated (binary c.op first c.operand) cs

-- `a IN (b, c)`: `a = b OR a = c`
abbrev pub among : Value → List Value → Value
among left items = chain disjunction (map (λ item. binary op.Equal left item) items)

-- `a BETWEEN b AND c`: `a >= b AND a <= c`
abbrev pub between : Value → Value → Value → Value
between left low high =
    conjunction (binary op.GreaterEqual left low) (binary op.LessEqual left high)

-- with NOT written before the operator
abbrev pub negated_where : Bool → Value → Value
negated_where true value = negation value
negated_where false value = value

-- one level of an expression, whose children are seen as their values
abbrev pub meaning_level : Env → Expr-F Value → Value
meaning_level env (Expr-F.Literal value) = value
meaning_level env (Expr-F.Alias name) = bound env name
meaning_level env (Expr-F.Steps base steps) = steps_from base steps
meaning_level env (Expr-F.Choice test a b) = chosen test a b
meaning_level env (Expr-F.Coalesce items) = chain first_defined items
meaning_level env (Expr-F.Or items) = chain disjunction items
meaning_level env (Expr-F.And items) = chain conjunction items
meaning_level env (Expr-F.Not a) = negation a
meaning_level env (Expr-F.Compare operator a b) = binary operator a b
meaning_level env (Expr-F.Among negated left items) = negated_where negated (among left items)
meaning_level env (Expr-F.Between negated left low high) =
    negated_where negated (between left low high)
meaning_level env (Expr-F.Like negated left pattern) =
    negated_where negated (binary op.Like left pattern)
meaning_level env (Expr-F.Join items) = chain joined items
meaning_level env (Expr-F.Sum first rest) = operated first rest
meaning_level env (Expr-F.Product first rest) = operated first rest
meaning_level env (Expr-F.Sign operator a) = unary operator a
meaning_level env (Expr-F.Call func args) = call func args
meaning_level env (Expr-F.Total aggregate a) = Undefined
meaning_level env (Expr-F.List items) = Defined (tree.List (defined_of items))
meaning_level env (Expr-F.Object members) = Defined (tree.Object (members_of members))

abbrev pub meaning : Env → Expr → Value
meaning env = fold-Expr Value (meaning_level env)
