-- Lists of documents of which one has those of the other but for some that have no rows in a query.
-- It is this project's own; it comes from no public document.
use Rattle.std.specs.Prelude.{ℕ, List, [], ◌∷◌}
use Rattle.ax_tree.specs.declared.tree.Tree.{Tree}
use Rattle.ax_mean.specs.declared.query.Query.{Query}
use Rattle.ax_atoms.specs.Silent.{IsSilent}

-- the second list is the first without some documents that have no rows, each a number and a tree
pub data Skips (query : Query) : List (ℕ × Tree) → List (ℕ × Tree) → Type 0 where
  nothing : Skips query [] []
  kept : (document : ℕ × Tree) (all some : List (ℕ × Tree)) → Skips query all some
      → Skips query (document ∷ all) (document ∷ some)
  skipped : (document : ℕ × Tree) (all some : List (ℕ × Tree)) → IsSilent query document.1 → Skips query all some
      → Skips query (document ∷ all) some
