-- The rows of a document: all tuples of what its sources may bind, the first source varying slowest,
-- and what a query shows of those that pass WHERE. As FROM, IN and JOIN of Azure Cosmos DB for NoSQL.
use Rattle.std.specs.Prelude.{ℕ, ◌+◌, List, [], ◌∷◌, ◌++◌, map, Bool, true, false, Option, Some, None, if◌then◌else◌}
use Rattle.std.specs.List.{flat_map, filter_map}
use Rattle.ax_tree.specs.Document.{member}
use Rattle.ax_tree.specs.declared.members.Member.{Member}
use Rattle.ax_tree.specs.declared.tree.Tree as tree
use Rattle.ax_tree.specs.declared.tree.Tree.{Tree}
use Rattle.ax_mean.specs.declared.expr.Expr.{Expr}
use Rattle.ax_mean.specs.declared.query.FromItem.{FromItem}
use Rattle.ax_mean.specs.declared.query.KeyedRow.{KeyedRow}
use Rattle.ax_mean.specs.declared.query.Named.{Named}
use Rattle.ax_mean.specs.declared.query.Pick.{Pick}
use Rattle.ax_mean.specs.declared.query.Pick.TheVariants as pick
use Rattle.ax_mean.specs.declared.query.Query.{Query}
use Rattle.ax_mean.specs.declared.query.Step.{Step}
use Rattle.ax_mean.specs.declared.query.Step.TheVariants.{Name, Item}
use Rattle.ax_mean.specs.declared.value.Value.{Value}
use Rattle.ax_mean.specs.declared.value.Value.TheVariants.{Undefined, Defined}
use Rattle.ax_mean.specs.Building.{members_of}
use Rattle.ax_mean.specs.Meaning.{Env, bound, is_yes, meaning}
use Rattle.ax_mean.specs.Steps.{steps_from}
use Rattle.ax_mean.specs.Values.{of_tree, list_of, truth_of}

-- A row in the making: what its aliases stand for, in the order of the sources, and the positions
-- that the sources with IN chose.
pub record Bound : Type 0 where
  pub env : Env
  pub place : List ℕ

-- What a source may bind: a tree, with the positions that choosing it adds to the place.
pub record Choice : Type 0 where
  pub positions : List ℕ
  pub tree : Tree

-- the elements of a list, each with its position
abbrev pub elements_from : ℕ → List Tree → List Choice
elements_from at [] = []
elements_from at (tree ∷ trees) =
    record { positions = at ∷ []; tree = tree } ∷ elements_from (at + 1) trees

abbrev pub elements : Option (List Tree) → List Choice
elements None = []
elements (Some trees) = elements_from 0 trees

abbrev pub whole : Value → List Choice
whole Undefined = []
whole (Defined tree) = record { positions = []; tree = tree } ∷ []

-- with IN each element of a list, else the value itself
abbrev pub choices : Bool → Value → List Choice
choices true value = elements (list_of value)
choices false value = whole value

abbrev pub with_choice : List ℕ → Bound → Choice → Bound
with_choice alias row choice =
    record {
      env = row.env ++ (alias, Defined choice.tree) ∷ [];
      place = row.place ++ choice.positions;
    }

-- the rows that a row grows to, by sources that begin at aliases
abbrev pub rows_from : List FromItem → Bound → List Bound
rows_from [] row = row ∷ []
rows_from (item ∷ items) row =
    flat_map (λ choice. rows_from items (with_choice item.alias row choice))
    (choices item.each (steps_from (bound row.env item.base) item.steps))

abbrev pub nothing_bound : Bound
nothing_bound = record { env = []; place = [] }

-- The first source begins at the document, and so its base binds nothing.
abbrev pub rows_of_tree : List FromItem → Tree → List Bound
rows_of_tree [] tree = []
rows_of_tree (item ∷ items) tree =
    flat_map (λ choice. rows_from items (with_choice item.alias nothing_bound choice))
    (choices item.each (steps_from (Defined tree) item.steps))

-- whether a row passes WHERE
abbrev pub passes : Option Expr → Env → Bool
passes None env = true
passes (Some condition) env = is_yes (truth_of (meaning env condition))

-- the environments of the rows that pass, in order
abbrev pub env_where : Option Expr → Bound → Option Env
env_where condition row = if passes condition row.env then Some row.env else None

abbrev pub envs_of_tree : Query → Tree → List Env
envs_of_tree query tree = filter_map (env_where query.condition) (rows_of_tree query.froms tree)

-- The value at a path of a document: undefined where a step is to any element of a list.
abbrev pub along_step : Value → Step → Value
along_step Undefined step = Undefined
along_step (Defined tree) (Name name) = of_tree (member name tree)
along_step (Defined tree) Item = Undefined

abbrev pub along_path : Value → List Step → Value
along_path value [] = value
along_path value (step ∷ steps) = along_path (along_step value step) steps

abbrev pub order_values : Query → Tree → List Value
order_values query tree = map (λ order. along_path (Defined tree) order.path) query.orders

-- what `*` shows: the value of the first alias
abbrev pub first_bound : Env → Value
first_bound [] = Undefined
first_bound ((alias, value) ∷ env) = value

-- an item with its name and its value
abbrev pub named_member : Env → Named → Member Value
named_member env item = record { name = item.name; value = meaning env item.expr }

abbrev pub shown : Pick → Env → Value
shown pick.Star env = first_bound env
shown (pick.Value expr) env = meaning env expr
shown (pick.Named items) env = Defined (tree.Object (members_of (map (named_member env) items)))

-- a row with its key, where what it shows is defined
abbrev pub keyed : List Value → ℕ → List ℕ → Value → Option KeyedRow
keyed values number place Undefined = None
keyed values number place (Defined tree) =
    Some (record { values = values; number = number; place = place; shown = tree })

abbrev pub keyed_where : Query → ℕ → List Value → Bound → Option KeyedRow
keyed_where query number values row =
    if passes query.condition row.env
    then keyed values number row.place (shown query.pick row.env)
    else None

-- the rows of a document that pass, each with its key
abbrev pub keyed_rows : Query → ℕ → Tree → List KeyedRow
keyed_rows query number tree =
    filter_map (keyed_where query number (order_values query tree))
    (rows_of_tree query.froms tree)
