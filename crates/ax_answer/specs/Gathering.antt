-- What is kept of the documents that were added so far, and when a query needs no further one. As
-- OFFSET, LIMIT and ORDER BY of Azure Cosmos DB for NoSQL.
use Rattle.std.specs.Prelude.{◌≡◌, ◌≤◌, ◌+◌, ℕ, zero, suc, List, length, Bool, true, false, Option, Some, None}
use Rattle.ax_tree.specs.declared.tree.Tree.{Tree}
use Rattle.ax_mean.specs.declared.query.Query.{Query}
use Rattle.ax_mean.specs.Aggregates.{has_groups, has_some}
use Rattle.ax_mean.specs.Answer.{all_rows, distinct_where}
use Rattle.ax_rows.specs.declared.least.LeastRows as least
use Rattle.ax_rows.specs.Front.{IsFront, room_of}
use Rattle.ax_rows.specs.Least.{HoldsLeast}
use Rattle.ax_result.specs.Groups.{all_envs}
use Rattle.ax_group.specs.States.{Holds}
use Rattle.ax_answer.specs.declared.answer.Answer as answers
use Rattle.ax_answer.specs.declared.held.Held as held
use Rattle.ax_answer.specs.declared.held.Held.TheVariants.{Nothing, InGroups, Front, Least, Every}

-- whether any row is wanted: not with LIMIT 0
abbrev pub wants_rows : Option ℕ → Bool
wants_rows None = true
wants_rows (Some zero) = false
wants_rows (Some (suc limit)) = true

-- as many of the least rows are kept as OFFSET and LIMIT choose among
abbrev pub KeepsLeast : least.LeastRows → Query → List (ℕ × Tree) → Type 0
KeepsLeast least query entries =
    (most : ℕ) × (room_of query.skip query.limit ≡ Some most)
    × HoldsLeast least query.orders most (all_rows query entries)

-- Where rows are wanted, the groups of the rows are kept, where the query has groups; without ORDER BY
-- the front, less the rows that OFFSET leaves out; with it as many of the least rows as OFFSET and LIMIT
-- choose among, or every row.
abbrev pub GathersIn : held.Held → Query → List (ℕ × Tree) → Type 0
GathersIn Nothing query entries = wants_rows query.limit ≡ false
GathersIn (InGroups groups) query entries =
    (wants_rows query.limit ≡ true) × (has_groups query ≡ true)
    × Holds groups query (all_envs query entries)
GathersIn (Front front) query entries =
    (wants_rows query.limit ≡ true) × (has_groups query ≡ false) × (has_some query.orders ≡ false)
    × IsFront front query.distinct query.skip query.limit (all_rows query entries)
GathersIn (Least least) query entries =
    (wants_rows query.limit ≡ true) × (has_groups query ≡ false) × (has_some query.orders ≡ true)
    × (query.distinct ≡ false) × KeepsLeast least query entries
GathersIn (Every rows) query entries =
    (wants_rows query.limit ≡ true) × (has_groups query ≡ false) × (has_some query.orders ≡ true)
    × (rows.items ≡ all_rows query entries)

-- the answer of that query has taken in these documents, each a number and a tree
abbrev pub Gathers : answers.Answer → Query → List (ℕ × Tree) → Type 0
Gathers answer query entries = (answer.query.now ≡ query) × GathersIn answer.held query entries

-- The rows of these documents are as many as OFFSET and LIMIT choose among, and come in their order:
-- further documents change nothing of the answer.
pub record HasEnough (query : Query) (entries : List (ℕ × Tree)) : Type 0 where
  pub no_groups : has_groups query ≡ false
  pub no_orders : has_some query.orders ≡ false
  pub limit : ℕ
  pub limited : query.limit ≡ Some limit
  pub many : query.skip + limit ≤ length (distinct_where query.distinct (all_rows query entries))
