-- Documents that have no rows in a query, neither to be shown nor to be grouped.
use Rattle.std.specs.Prelude.{◌≡◌, ℕ, []}
use Rattle.ax_tree.specs.declared.tree.Tree.{Tree}
use Rattle.ax_mean.specs.declared.query.Query.{Query}
use Rattle.ax_mean.specs.Rows.{envs_of_tree, keyed_rows}

-- the document has no rows, whatever its number
abbrev pub IsSilent : Query → Tree → Type 0
IsSilent query given =
    (envs_of_tree query given ≡ []) × ((number : ℕ) → keyed_rows query number given ≡ [])
