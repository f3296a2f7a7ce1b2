-- What the rules of scope make sure of in a query, whatever text it is: where its aliases are bound
-- and used, what stands in its expressions, and which of its parts stand together. That parameters
-- are replaced needs no word, since no form of an expression is one.
use Rattle.std.specs.Prelude.{◌≡◌, ℕ, ◌+◌, ◌≤◌, ⊤, List, [], ◌∷◌, ◌++◌, map, length, Bool, true, false, ◌&&◌}
use Rattle.std.specs.List.{list_all, list_any}
use Rattle.ax_mean.specs.declared.expr.Expr.{Expr}
use Rattle.ax_mean.specs.declared.query.FromItem.{FromItem}
use Rattle.ax_mean.specs.declared.query.Pick.{Pick}
use Rattle.ax_mean.specs.declared.query.Pick.TheVariants as pick
use Rattle.ax_mean.specs.declared.query.Query.{Query}
use Rattle.ax_mean.specs.Aggregates.{has_aggregate, has_groups, has_some}
use Rattle.ax_grammar.specs.Parts.{has, are_declared, aggregates_fit, calls_fit, is_built}
use Rattle.ax_grammar.specs.Scope.{most_joins, most_groups, most_orders, are_distinct, exprs_optional}
use Rattle.ax_grammar.specs.Tables.{most_items}

abbrev pub aliases_bound : List FromItem → List (List ℕ)
aliases_bound = map (λ item. item.alias)

-- each of these sources binds the elements of a list, and begins at an alias that is bound before it
abbrev pub are_joins : List (List ℕ) → List FromItem → Bool
are_joins bound [] = true
are_joins bound (item ∷ items) =
    item.each && has bound item.base && are_joins (item.alias ∷ bound) items

-- there is a first source, and those behind it are joins
abbrev pub sources_stand : List FromItem → Bool
sources_stand [] = false
sources_stand (first ∷ items) = are_joins (first.alias ∷ []) items

-- the first source binds the document itself
abbrev pub BindsDocument : List FromItem → Type 0
BindsDocument [] = ⊥
BindsDocument (first ∷ items) = (first.each ≡ false) × (has_some first.steps ≡ false)

abbrev pub exprs_shown : Pick → List Expr
exprs_shown pick.Star = []
exprs_shown (pick.Value x) = x ∷ []
exprs_shown (pick.Named items) = map (λ item. item.expr) items

-- the expressions that are asked of each row: those behind WHERE and GROUP BY
abbrev pub exprs_of_rows : Query → List Expr
exprs_of_rows query = exprs_optional query.condition ++ query.groups

abbrev pub exprs_in : Query → List Expr
exprs_in query = exprs_shown query.pick ++ exprs_of_rows query

-- `*` shows the one source of a query that has no groups. The items that are shown have distinct
-- names, and are not too many.
abbrev pub PickStands : Query → Pick → Type 0
PickStands query pick.Star = (length query.froms ≡ 1) × (has_groups query ≡ false)
PickStands query (pick.Value x) = ⊤
PickStands query (pick.Named items) =
    (are_distinct (map (λ item. item.name) items) ≡ true) × (length items ≤ most_items)

pub record IsScoped (query : Query) : Type 0 where
  -- No alias is bound twice. There is a source, and each one behind the first is a join from an
  -- alias that is bound before it.
  pub distinct : are_distinct (aliases_bound query.froms) ≡ true
  pub sources : sources_stand query.froms ≡ true
  -- each alias in an expression is bound by a source
  pub bound : list_all (are_declared (aliases_bound query.froms)) (exprs_in query) ≡ true
  -- each function has as many arguments as it takes
  pub arguments : list_all calls_fit (exprs_in query) ≡ true
  -- An aggregate stands only in what is shown, and in no other one's argument.
  pub alone : list_all (λ x. aggregates_fit x true) (exprs_shown query.pick) ≡ true
  pub shown_only : list_any has_aggregate (exprs_of_rows query) ≡ false
  -- what a query with groups shows is built of aggregates, literals and what it groups by
  pub built : has_groups query ≡ true
      → list_all (is_built query.groups) (exprs_shown query.pick) ≡ true
  -- a query with ORDER BY has no groups, and its first source is the document
  pub ordered : has_some query.orders ≡ true
      → (has_groups query ≡ false) × BindsDocument query.froms
  pub pick : PickStands query query.pick
  -- the first source and the joins, what is grouped by, and what is ordered by
  pub few : (length query.froms ≤ most_joins + 1) × (length query.groups ≤ most_groups)
      × (length query.orders ≤ most_orders)
