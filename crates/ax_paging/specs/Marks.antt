-- Where a page of an answer begins, and which rows are left from there. A page of a query with groups
-- or DISTINCT begins behind so many rows of the answer. One of any other query begins behind the row
-- of a key, whether or not that row is there: rows that came or went before it since then change
-- nothing of what is left. As the continuation of queries in Azure Cosmos DB for NoSQL.
use Rattle.std.specs.Prelude.{◌≡◌, ⊤, ℕ, List, drop, Bool, true, false, ◌||◌, Option}
use Rattle.ax_tree.specs.declared.tree.Tree.{Tree}
use Rattle.ax_mean.specs.declared.query.KeyedRow.{KeyedRow}
use Rattle.ax_mean.specs.declared.query.Query.{Query}
use Rattle.ax_mean.specs.Aggregates.{has_groups}
use Rattle.ax_mean.specs.Answer.{all_rows, limited, sorted}
use Rattle.ax_mean.specs.RowOrder.{key_cmp}
use Rattle.ax_result.specs.Answers.{answer_of}
use Rattle.ax_paging.specs.RowKeys.{RowKey, rows_behind}

-- where a page begins
pub data Mark : Type 0 where
  -- at the beginning of the answer
  Beginning : Mark
  -- behind the row of a key: of the rows there so many are passed over, and then at most so many given
  Behind : RowKey → ℕ → Option ℕ → Mark
  -- behind so many rows of the answer
  Count : ℕ → Mark

-- the pages of the query count the rows given, since its rows have no keys that tell them apart
abbrev pub is_counted : Query → Bool
is_counted query = query.distinct || has_groups query

-- the mark is one of the pages of this query
abbrev pub IsMarkOf : Query → Mark → Type 0
IsMarkOf query Beginning = ⊤
IsMarkOf query (Behind key skip left) = is_counted query ≡ false
IsMarkOf query (Count given) = is_counted query ≡ true

-- the rows of a query in the order of their keys, before OFFSET and LIMIT
abbrev pub ordered_rows : Query → List (ℕ × Tree) → List KeyedRow
ordered_rows query entries = sorted (key_cmp query.orders) (all_rows query entries)

-- the rows that are left from a mark on
abbrev pub remaining : Query → List (ℕ × Tree) → Mark → List KeyedRow
remaining query entries Beginning = answer_of query entries
remaining query entries (Behind key skip left) =
    limited left (drop skip (rows_behind query.orders key (ordered_rows query entries)))
remaining query entries (Count given) = drop given (answer_of query entries)
