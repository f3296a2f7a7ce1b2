-- The rules of scope: what holds of a query that is written by the grammar.
use Rattle.std.specs.Prelude.{ℕ, List, [], ◌∷◌, map, length, Bool, true, false, ◌&&◌, ◌||◌, not, nat_le, Option, Some, None, is_some, is_none}
use Rattle.std.specs.List.{list_all, list_any}
use Rattle.std.specs.Str.{bytes_eq}
use Rattle.ax_mean.specs.declared.expr.Expr.{Expr}
use Rattle.ax_mean.specs.Aggregates.{has_aggregate}
use Rattle.ax_grammar.specs.Names.{alias_of, item_names}
use Rattle.ax_grammar.specs.Parts.{has, are_declared, aggregates_fit, is_built}
use Rattle.ax_grammar.specs.Tables.{most_items}
use Rattle.ax_grammar.specs.Written.{Picked, Source, Joined, Written}
use Rattle.ax_grammar.specs.Written.Picked.{the_star, the_value, the_items}

abbrev pub most_joins : ℕ
most_joins = 8

abbrev pub most_groups : ℕ
most_groups = 8

abbrev pub most_orders : ℕ
most_orders = 8

abbrev pub is_empty : {X : Type 0} → List X → Bool
is_empty [] = true
is_empty (x ∷ xs) = false

-- no name stands twice
abbrev pub are_distinct : List (List ℕ) → Bool
are_distinct [] = true
are_distinct (name ∷ names) = not (has names name) && are_distinct names

-- the alias of the first source, and the container's name where it has none
abbrev pub or_container : List ℕ → Option (List ℕ) → List ℕ
or_container container None = container
or_container container (Some alias) = alias

abbrev pub first_alias : Source → List ℕ
first_alias source = or_container source.container (alias_of source)

abbrev pub aliases_of : Written → List (List ℕ)
aliases_of w = first_alias w.source ∷ map (λ joined. joined.alias) w.joins

-- each join begins with an alias that is declared before it
abbrev pub bases_declared : List (List ℕ) → List Joined → Bool
bases_declared declared [] = true
bases_declared declared (joined ∷ joins) =
    has declared joined.base && bases_declared (joined.alias ∷ declared) joins

abbrev pub exprs_picked : Picked → List Expr
exprs_picked the_star = []
exprs_picked (the_value x) = x ∷ []
exprs_picked (the_items items) = map (λ item. item.expr) items

abbrev pub exprs_optional : Option Expr → List Expr
exprs_optional None = []
exprs_optional (Some x) = x ∷ []

-- The first source has an alias; the aliases are distinct; joins and expressions use declared ones.
abbrev pub sources_fit : Written → Bool
sources_fit w =
    is_some (alias_of w.source) && are_distinct (aliases_of w)
    && bases_declared (first_alias w.source ∷ []) w.joins

abbrev pub aliases_fit : Written → Bool
aliases_fit w =
    list_all (are_declared (aliases_of w)) (exprs_picked w.picked)
    && list_all (are_declared (aliases_of w)) (exprs_optional w.condition)
    && list_all (are_declared (aliases_of w)) w.groups

-- At most so many joins, expressions behind GROUP BY, and items of ORDER BY.
abbrev pub limits_fit : Written → Bool
limits_fit w =
    nat_le (length w.joins) most_joins && nat_le (length w.groups) most_groups
    && nat_le (length w.orders) most_orders

-- At most so many items, of distinct names; `*` neither with joins nor with GROUP BY.
abbrev pub pick_fits : Written → Picked → Bool
pick_fits w the_star = is_empty w.joins && is_empty w.groups
pick_fits w (the_value x) = true
pick_fits w (the_items items) =
    nat_le (length items) most_items && are_distinct (item_names items)

-- with GROUP BY or an aggregate
abbrev pub is_grouped : Written → Bool
is_grouped w = not (is_empty w.groups) || list_any has_aggregate (exprs_picked w.picked)

-- Aggregates stand only in picked expressions, and none inside another's argument.
abbrev pub aggregates_stand : Written → Bool
aggregates_stand w =
    list_all (λ x. aggregates_fit x true) (exprs_picked w.picked)
    && list_all (λ x. aggregates_fit x false) (exprs_optional w.condition)
    && list_all (λ x. aggregates_fit x false) w.groups

-- Where the query has GROUP BY or an aggregate, each picked expression is built of aggregates,
-- literals and what is the same as an expression behind GROUP BY.
abbrev pub groups_fit : Written → Bool
groups_fit w = not (is_grouped w) || list_all (is_built w.groups) (exprs_picked w.picked)

-- ORDER BY stands where FROM binds its alias to the document, each item begins with this alias, and
-- there is neither GROUP BY nor an aggregate.
abbrev pub orders_fit : Written → Bool
orders_fit w =
    is_empty w.orders
    || (not w.source.each && is_empty w.source.steps && not (is_grouped w)
    && list_all (λ ordered. bytes_eq ordered.alias (first_alias w.source)) w.orders)

-- TOP does not stand with OFFSET.
abbrev pub window_fits : Written → Bool
window_fits w = is_none w.top || is_none w.window

abbrev pub obeys_rules : Written → Bool
obeys_rules w =
    limits_fit w && window_fits w && sources_fit w && aliases_fit w && pick_fits w w.picked
    && aggregates_stand w && groups_fit w && orders_fit w
