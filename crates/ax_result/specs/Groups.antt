-- The answer of a query with groups: rows with equal values of the expressions behind GROUP BY are one
-- group, and each group shows one row. As GROUP BY, COUNT, SUM, MIN and MAX of Azure Cosmos DB for
-- NoSQL.
use Rattle.std.specs.Prelude.{ℕ, List, [], ◌∷◌, ◌++◌, map, Bool, Option}
use Rattle.std.specs.declared.cmp.Ordering.{Ordering}
use Rattle.std.specs.declared.cmp.Ordering.TheVariants.{Less, Equal, Greater}
use Rattle.std.specs.List.{flat_map, filter_map, list_any}
use Rattle.std.specs.Ordering.{is_eq}
use Rattle.std.specs.Cmp.Lexicographic.{slice_cmp}
use Rattle.ax_tree.specs.declared.tree.Tree.{Tree}
use Rattle.ax_mean.specs.declared.expr.Expr.{Expr}
use Rattle.ax_mean.specs.declared.query.KeyedRow.{KeyedRow}
use Rattle.ax_mean.specs.declared.query.Named.{Named}
use Rattle.ax_mean.specs.declared.query.Pick.{Pick}
use Rattle.ax_mean.specs.declared.query.Pick.TheVariants as pick
use Rattle.ax_mean.specs.declared.query.Query.{Query}
use Rattle.ax_mean.specs.declared.value.Value.{Value}
use Rattle.ax_mean.specs.Answer.{finish}
use Rattle.ax_mean.specs.Meaning.{Env, meaning}
use Rattle.ax_mean.specs.Rows.{envs_of_tree, keyed, shown}
use Rattle.ax_mean.specs.ValueOrder.{value_cmp}
use Rattle.ax_result.specs.Totals.{with_totals}

-- A group: the values that its rows have in common, and its rows, each by what its aliases stand for.
pub record Group : Type 0 where
  pub values : List Value
  pub envs : List Env

-- the values of a row that tell its group, undefined included
abbrev pub group_values : List Expr → Env → List Value
group_values exprs env = map (meaning env) exprs

abbrev pub values_cmp : List Value → List Value → Ordering
values_cmp = slice_cmp value_cmp

abbrev pub alone : List Value → Env → Group
alone values env = record { values = values; envs = env ∷ [] }

abbrev pub and_row : Group → Env → Group
and_row group env = record { values = group.values; envs = group.envs ++ env ∷ [] }

-- what becomes of groups in the order of their values by a row with such values
abbrev pub placed : Ordering → List Value → Env → Group → List Group → List Group → List Group
placed Less values env group groups rest = alone values env ∷ group ∷ groups
placed Equal values env group groups rest = and_row group env ∷ groups
placed Greater values env group groups rest = group ∷ rest

-- a row in its group, which stands in the order of the values
abbrev pub with_row : List Value → Env → List Group → List Group
with_row values env [] = alone values env ∷ []
with_row values env (group ∷ groups) =
    placed (values_cmp values group.values) values env group groups (with_row values env groups)

-- Without GROUP BY there is one group, also where there is no row.
abbrev pub groups_before : List Expr → List Group
groups_before [] = record { values = []; envs = [] } ∷ []
groups_before (expr ∷ exprs) = []

-- the groups with more rows
abbrev pub with_rows : List Expr → List Group → List Env → List Group
with_rows exprs groups [] = groups
with_rows exprs groups (env ∷ envs) =
    with_rows exprs (with_row (group_values exprs env) env groups) envs

abbrev pub groups_of : List Expr → List Env → List Group
groups_of exprs envs = with_rows exprs (groups_before exprs) envs

-- the tuples of groups, each of the values that its rows have in common
abbrev pub tuples : List Group → List (List Value)
tuples = map (λ group. group.values)

-- whether a row is of a tuple, and whether a group is there for a tuple
abbrev pub is_of : List Expr → List Value → Env → Bool
is_of exprs tuple env = is_eq (values_cmp tuple (group_values exprs env))

abbrev pub has_tuple : List Value → List Group → Bool
has_tuple tuple = list_any (λ group. is_eq (values_cmp tuple group.values))

-- What the aliases stand for in the first row, by which a group shows. What a query read from a
-- text picks is built of aggregates, literals and expressions behind GROUP BY, so there all rows
-- show the same.
abbrev pub first_env : List Env → Env
first_env [] = []
first_env (env ∷ envs) = env

-- what is picked, with aggregates over these rows
abbrev pub item_over : List Env → Named → Named
item_over envs item = record { name = item.name; expr = with_totals envs item.expr }

abbrev pub pick_over : List Env → Pick → Pick
pick_over envs pick.Star = pick.Star
pick_over envs (pick.Value expr) = pick.Value (with_totals envs expr)
pick_over envs (pick.Named items) = pick.Named (map (item_over envs) items)

abbrev pub shown_over : Pick → List Env → Value
shown_over picked envs = shown (pick_over envs picked) (first_env envs)

-- the row of a group, where what it shows is defined
abbrev pub group_row : Pick → Group → Option KeyedRow
group_row picked group = keyed group.values 0 [] (shown_over picked group.envs)

-- the rows of a query with groups from the rows that pass WHERE
abbrev pub group_rows : Query → List Env → List KeyedRow
group_rows query envs = filter_map (group_row query.pick) (groups_of query.groups envs)

-- the rows of all documents that pass WHERE
abbrev pub all_envs : Query → List (ℕ × Tree) → List Env
all_envs query entries = flat_map (λ e. envs_of_tree query e.1) entries

abbrev pub group_answer : Query → List (ℕ × Tree) → List KeyedRow
group_answer query entries = finish query (group_rows query (all_envs query entries))
