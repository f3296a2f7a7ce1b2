-- What a page is made of: of the rows that lie behind its mark the least so many, one more than those
-- that are passed over and those that are given.
use Rattle.std.specs.Prelude.{ℕ, ◌+◌, List, take, drop}
use Rattle.ax_mean.specs.declared.query.KeyedRow.{KeyedRow}
use Rattle.ax_mean.specs.declared.query.Order.{Order}
use Rattle.ax_mean.specs.declared.query.Query.{Query}
use Rattle.ax_mean.specs.Answer.{limited, sorted}
use Rattle.ax_mean.specs.RowOrder.{key_cmp}
use Rattle.ax_paging.specs.RowKeys.{rows_behind}
use Rattle.ax_paging.specs.Marks.{Mark, Beginning, Behind, Count}
use Rattle.ax_paging.specs.Pages.{Page, limit_at, page_from}

-- the rows that lie behind a mark
abbrev pub behind_mark : List Order → Mark → List KeyedRow → List KeyedRow
behind_mark orders Beginning rows = rows
behind_mark orders (Behind key skip left) rows = rows_behind orders key rows
behind_mark orders (Count given) rows = rows

-- how many of them are passed over
abbrev pub skip_at : Query → Mark → ℕ
skip_at query Beginning = query.skip
skip_at query (Behind key skip left) = skip
skip_at query (Count given) = query.skip

-- the page that the least of these rows make, in whatever order they were found
abbrev pub page_of_least : Query → Mark → ℕ → List KeyedRow → Page
page_of_least query mark count rows =
    page_from query mark count
    (limited (limit_at query mark) (drop (skip_at query mark)
    (take (skip_at query mark + (count + 1)) (sorted (key_cmp query.orders) (behind_mark query.orders mark rows)))))
