-- A page of an answer: the first so many of the rows that are left from a mark on and, exactly where
-- a further row follows them, the mark of the page behind it.
use Rattle.std.specs.Prelude.{ℕ, ◌+◌, ◌-◌, List, [], ◌∷◌, length, take, drop, Option, Some, None, option_map, if◌then◌else◌}
use Rattle.ax_tree.specs.declared.tree.Tree.{Tree}
use Rattle.ax_mean.specs.declared.query.KeyedRow.{KeyedRow}
use Rattle.ax_mean.specs.declared.query.Query.{Query}
use Rattle.ax_paging.specs.RowKeys.{key_of}
use Rattle.ax_paging.specs.Marks.{Mark, Beginning, Behind, Count, is_counted, remaining}

-- some rows of an answer, and where the next ones begin
pub record Page : Type 0 where
  pub rows : List KeyedRow
  pub next : Option Mark

-- the last of a list
abbrev pub last : {X : Type 0} → List X → Option X
last [] = None
last (x ∷ []) = Some x
last (x ∷ y ∷ ys) = last (y ∷ ys)

-- a limit, less the rows given
abbrev pub less_given : Option ℕ → ℕ → Option ℕ
less_given None given = None
less_given (Some limit) given = Some (limit - given)

-- what is left of LIMIT at a mark
abbrev pub limit_at : Query → Mark → Option ℕ
limit_at query Beginning = query.limit
limit_at query (Behind key skip left) = left
limit_at query (Count given) = query.limit

-- the rows given before a mark that counts them
abbrev pub given_at : Mark → ℕ
given_at Beginning = 0
given_at (Behind key skip left) = 0
given_at (Count given) = given

-- the mark behind a row, the last of so many given from a mark on: nothing is left of OFFSET there
abbrev pub behind_row : Query → Mark → ℕ → KeyedRow → Mark
behind_row query mark count row = Behind (key_of row) 0 (less_given (limit_at query mark) count)

-- the mark behind the rows given from a mark on
abbrev pub mark_behind : Query → Mark → List KeyedRow → Option Mark
mark_behind query mark given =
    if is_counted query then Some (Count (given_at mark + length given))
    else option_map (behind_row query mark (length given)) (last given)

-- a mark, where a row follows
abbrev pub next_where : List KeyedRow → Option Mark → Option Mark
next_where [] mark = None
next_where (row ∷ rows) mark = mark

-- the page of so many of the rows that are left from a mark on
abbrev pub page_from : Query → Mark → ℕ → List KeyedRow → Page
page_from query mark count rows =
    record {
      rows = take count rows;
      next = next_where (drop count rows) (mark_behind query mark (take count rows));
    }

-- the page of so many rows from a mark on
abbrev pub page : Query → List (ℕ × Tree) → Mark → ℕ → Page
page query entries mark count = page_from query mark count (remaining query entries mark)
