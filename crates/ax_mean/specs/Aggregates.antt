-- Whether a query has groups: GROUP BY is written, or an aggregate stands somewhere in what is picked.
use Rattle.std.specs.Prelude.{List, [], ◌∷◌, Bool, true, false, ◌||◌}
use Rattle.std.specs.List.{list_any}
use Rattle.ax_tree.specs.declared.members.Member.{Member}
use Rattle.ax_mean.specs.declared.expr.Chained.{Chained}
use Rattle.ax_mean.specs.declared.expr.Expr.{Expr, fold-Expr, out-Expr}
use Rattle.ax_mean.specs.declared.expr.Expr.TheOpen.{Expr-F}
use Rattle.ax_mean.specs.declared.query.Pick.{Pick}
use Rattle.ax_mean.specs.declared.query.Pick.TheVariants as pick
use Rattle.ax_mean.specs.declared.query.Query.{Query}

abbrev pub any_of : List Bool → Bool
any_of = list_any (λ flag. flag)

abbrev pub any_operand : List (Chained Bool) → Bool
any_operand = list_any (λ c. c.operand)

abbrev pub any_value : List (Member Bool) → Bool
any_value = list_any (λ m. m.value)

-- one level of an expression, whose children are seen as whether they have an aggregate
abbrev pub aggregate_level : Expr-F Bool → Bool
aggregate_level (Expr-F.Literal value) = false
aggregate_level (Expr-F.Alias name) = false
aggregate_level (Expr-F.Steps base steps) = base
aggregate_level (Expr-F.Choice test a b) = test || a || b
aggregate_level (Expr-F.Coalesce items) = any_of items
aggregate_level (Expr-F.Or items) = any_of items
aggregate_level (Expr-F.And items) = any_of items
aggregate_level (Expr-F.Not a) = a
aggregate_level (Expr-F.Compare operator a b) = a || b
aggregate_level (Expr-F.Among negated left items) = left || any_of items
aggregate_level (Expr-F.Between negated left low high) = left || low || high
aggregate_level (Expr-F.Like negated left pattern) = left || pattern
aggregate_level (Expr-F.Join items) = any_of items
aggregate_level (Expr-F.Sum first rest) = first || any_operand rest
aggregate_level (Expr-F.Product first rest) = first || any_operand rest
aggregate_level (Expr-F.Sign operator a) = a
aggregate_level (Expr-F.Call func args) = any_of args
aggregate_level (Expr-F.Total aggregate a) = true
aggregate_level (Expr-F.List items) = any_of items
aggregate_level (Expr-F.Object members) = any_value members

abbrev pub has_aggregate : Expr → Bool
has_aggregate = fold-Expr Bool aggregate_level

-- the expression is itself an aggregate
abbrev pub is_total_level : {X : Type 0} → Expr-F X → Bool
is_total_level (Expr-F.Total aggregate a) = true
is_total_level _ = false

abbrev pub is_total : Expr → Bool
is_total e = is_total_level (out-Expr e)

-- an operand of a chain, and a member, with whether it has an aggregate in place of its expression
abbrev pub operand_flag : Chained Expr → Chained Bool
operand_flag c = record { op = c.op; operand = has_aggregate c.operand }

abbrev pub member_flag : Member Expr → Member Bool
member_flag m = record { name = m.name; value = has_aggregate m.value }

abbrev pub picks_aggregate : Pick → Bool
picks_aggregate pick.Star = false
picks_aggregate (pick.Value expr) = has_aggregate expr
picks_aggregate (pick.Named items) = list_any (λ item. has_aggregate item.expr) items

abbrev pub has_some : {X : Type 0} → List X → Bool
has_some [] = false
has_some (x ∷ xs) = true

abbrev pub has_groups : Query → Bool
has_groups query = has_some query.groups || picks_aggregate query.pick
