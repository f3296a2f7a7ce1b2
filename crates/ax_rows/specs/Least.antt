-- The least so many rows of a query with ORDER BY and LIMIT, from rows that come one after another. As
-- ORDER BY with OFFSET and LIMIT of Azure Cosmos DB for NoSQL.
use Rattle.std.specs.Prelude.{◌≡◌, ℕ, zero, suc, ◌≤◌, List, ◌++◌, length, map, take, Bool, true, false, Option, Some, None, slice_get}
use Rattle.std.specs.declared.cmp.Ordering.{Ordering}
use Rattle.std.specs.Ordering.{is_lt, nat_cmp, ordering_then}
use Rattle.std.specs.Cmp.Lexicographic.{slice_cmp}
use Rattle.std.specs.List.{AllByRecursion}
use Rattle.ax_tree.specs.declared.tree.Tree.{Tree}
use Rattle.ax_mean.specs.declared.query.KeyedRow.{KeyedRow}
use Rattle.ax_mean.specs.declared.query.Order.{Order}
use Rattle.ax_mean.specs.declared.query.Query.{Query}
use Rattle.ax_mean.specs.Answer.{sorted}
use Rattle.ax_mean.specs.Rows.{Bound, keyed_where, order_values}
use Rattle.ax_rows.specs.KeyOrder.{directed_cmp}
use Rattle.ax_rows.specs.SortKeys.{keys_of, ranked, ranked_cmp}
use Rattle.ax_rows.specs.declared.least.LeastRows.{LeastRows}
use Rattle.ax_rows.specs.declared.least.LeastTaker.{LeastTaker}
use Rattle.ax_rows.specs.declared.ranked.Ranked.{Ranked}
use Rattle.ax_rows.specs.declared.sort_key.Directed.{Directed}

abbrev pub kept_rows : LeastRows → List Ranked
kept_rows held = held.least.items ++ held.later.items

-- the last of the so many rows that were put in order, where there are so many
abbrev pub bound_at : ℕ → List Ranked → Option Ranked
bound_at zero least = None
bound_at (suc last) least = slice_get least last

-- how a row with these keys, number and place stands to another
abbrev pub place_cmp : List Directed → ℕ → List ℕ → Ranked → Ordering
place_cmp keys number place row =
    ordering_then (slice_cmp directed_cmp keys row.keys)
    (ordering_then (nat_cmp number row.row.number) (slice_cmp nat_cmp place row.row.place))

-- whether such a row may be among the least: it is below the bound, where there is one
abbrev pub is_below : List Directed → ℕ → List ℕ → Option Ranked → Bool
is_below keys number place None = true
is_below keys number place (Some bound) = is_lt (place_cmp keys number place bound)

abbrev pub is_wanted : LeastRows → Ranked → Bool
is_wanted held row =
    is_below row.keys row.row.number row.row.place (bound_at held.most held.least.items)

-- What is kept of these rows tells which are the least so many of them, and a row that is not wanted
-- is behind as many. At most twice so many are kept.
pub record HoldsLeast (held : LeastRows) (orders : List Order) (most : ℕ)
    (rows : List KeyedRow) : Type 0 where
  pub count : held.most ≡ most
  pub few_least : length held.least.items ≤ most
  pub few_later : length held.later.items ≤ most
  pub behind : (row : Ranked) → is_wanted held row ≡ false
      → (most ≤ length (kept_rows held))
      × AllByRecursion (λ other. is_lt (ranked_cmp directed_cmp row other) ≡ false) (kept_rows held)
  pub least : take most (sorted (ranked_cmp directed_cmp) (kept_rows held))
      ≡ take most (sorted (ranked_cmp directed_cmp) (map (ranked orders) rows))

-- whose rows are taken, and how many of all are asked for
pub record LeastAsked : Type 0 where
  pub query : Query
  pub number : ℕ
  pub tree : Tree
  pub most : ℕ

abbrev pub least_keeps : LeastAsked → Bound → Option KeyedRow
least_keeps asked = keyed_where asked.query asked.number (order_values asked.query asked.tree)

pub record TakesLeast (taker : LeastTaker) (asked : LeastAsked) (rows : List KeyedRow) : Type 0 where
  pub by : taker.query.now ≡ asked.query
  pub under : taker.number ≡ asked.number
  pub within : taker.tree.now ≡ asked.tree
  pub keys : taker.keys ≡ keys_of asked.query.orders (order_values asked.query asked.tree)
  pub least : HoldsLeast taker.least asked.query.orders asked.most rows
