-- Pages one behind another, over documents that stay as they are: each begins where the one before it
-- ended, each asks for at least one row, and behind the last no row follows.
use Rattle.std.specs.Prelude.{◌≡◌, ℕ, ◌≤◌, List, [], ◌∷◌, ◌++◌, Option, Some, None}
use Rattle.ax_tree.specs.declared.tree.Tree.{Tree}
use Rattle.ax_mean.specs.declared.query.KeyedRow.{KeyedRow}
use Rattle.ax_mean.specs.declared.query.Query.{Query}
use Rattle.ax_paging.specs.Marks.{Mark}
use Rattle.ax_paging.specs.Pages.{page}

-- The pages from a mark on that ask for so many rows each have these rows, all together. Where there
-- is no mark no page is left.
abbrev pub AreJoined : Query → List (ℕ × Tree) → Option Mark → List ℕ → List KeyedRow → Type 0
AreJoined query entries None [] rows = rows ≡ []
AreJoined query entries None (count ∷ counts) rows = ⊥
AreJoined query entries (Some mark) [] rows = ⊥
AreJoined query entries (Some mark) (count ∷ counts) rows =
    (1 ≤ count)
    × ((later : List KeyedRow) × (rows ≡ (page query entries mark count).rows ++ later)
    × AreJoined query entries (page query entries mark count).next counts later)
