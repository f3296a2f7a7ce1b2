-- The front of the rows of a query without ORDER BY: the first so many of them, and of rows that show
-- the same text the first where DISTINCT is written; and what OFFSET and LIMIT choose there. As OFFSET,
-- LIMIT and DISTINCT of Azure Cosmos DB for NoSQL.
use Rattle.std.specs.Prelude.{◌≡◌, ℕ, zero, suc, ◌+◌, List, ◌++◌, drop, nat_le, Bool, false, Option, Some, None}
use Rattle.std.specs.BTreeSet.{BTreeSet, contains}
use Rattle.std.specs.Cmp.Lexicographic.{slice_cmp}
use Rattle.std.specs.Ordering.{nat_cmp}
use Rattle.ax_tree.specs.declared.tree.Tree.{Tree}
use Rattle.ax_mean.specs.declared.query.KeyedRow.{KeyedRow}
use Rattle.ax_mean.specs.declared.query.Query.{Query}
use Rattle.ax_mean.specs.Answer.{distinct_where, limited, unseen}
use Rattle.ax_mean.specs.Rows.{Bound, keyed_where, order_values}
use Rattle.ax_rows.specs.declared.front.FrontRows.{FrontRows}
use Rattle.ax_rows.specs.declared.front.FrontTaker.{FrontTaker}

-- how many rows OFFSET and LIMIT choose among; all where there is no LIMIT
abbrev pub room_of : ℕ → Option ℕ → Option ℕ
room_of skip None = None
room_of skip (Some limit) = Some (skip + limit)

-- the first rows, at most so many where there is room for so many
abbrev pub front_of : Bool → Option ℕ → List KeyedRow → List KeyedRow
front_of distinct room rows = limited room (distinct_where distinct rows)

-- the rows that OFFSET and LIMIT choose
abbrev pub window_of : Bool → ℕ → Option ℕ → List KeyedRow → List KeyedRow
window_of distinct skip limit rows = limited limit (drop skip (distinct_where distinct rows))

-- the rows whose text is not in the set, where one is kept
abbrev pub fresh : Option (BTreeSet (List ℕ)) → List KeyedRow → List KeyedRow
fresh None rows = rows
fresh (Some seen) rows = unseen (λ text. contains (slice_cmp nat_cmp) seen text) rows

-- how many rows are to be left out behind the next one, where that is left out whatever it shows
abbrev pub left_behind : Option (BTreeSet (List ℕ)) → ℕ → Option ℕ
left_behind (Some seen) left = None
left_behind None zero = None
left_behind None (suc left) = Some left

-- whether so many rows are as many as are wanted, where there is a limit
abbrev pub reaches : Option ℕ → ℕ → Bool
reaches None count = false
reaches (Some most) count = nat_le most count

-- what the rows kept come to with those that follow, less the first of these, which are to be left out
abbrev pub front_after : FrontRows → List KeyedRow → List KeyedRow
front_after front more =
    limited front.limit (front.rows.items ++ drop front.left (fresh front.seen more))

-- Of these rows the front is kept, without those that OFFSET leaves out: whatever follows, what is kept
-- and that come to what OFFSET and LIMIT choose of all.
pub record IsFront (front : FrontRows) (distinct : Bool) (skip : ℕ) (limit : Option ℕ)
    (rows : List KeyedRow) : Type 0 where
  pub has_limit : front.limit ≡ limit
  pub leads : (more : List KeyedRow)
      → front_after front more ≡ window_of distinct skip limit (rows ++ more)

-- whose rows are taken, and which front of all is asked for
pub record FrontAsked : Type 0 where
  pub query : Query
  pub number : ℕ
  pub tree : Tree
  pub distinct : Bool
  pub skip : ℕ
  pub limit : Option ℕ

abbrev pub front_keeps : FrontAsked → Bound → Option KeyedRow
front_keeps asked = keyed_where asked.query asked.number (order_values asked.query asked.tree)

pub record TakesFront (taker : FrontTaker) (asked : FrontAsked) (rows : List KeyedRow) : Type 0 where
  pub by : taker.query.now ≡ asked.query
  pub under : taker.number ≡ asked.number
  pub within : taker.tree.now ≡ asked.tree
  pub front : IsFront taker.front asked.distinct asked.skip asked.limit rows
