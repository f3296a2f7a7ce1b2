-- The text by which a store holds a document: the canonical text of a document that it can hold.
-- It is this project's own; it comes from no public document.
use Rattle.std.specs.Prelude.{◌≡◌, ℕ, List}
use Rattle.ax_tree.specs.declared.tree.Tree.{Tree}
use Rattle.ax_tree.specs.CanonicalText.{canonical_text}
use Rattle.ax_storable.specs.Storable.{IsStorable}

-- the text is that of the document
pub record IsStoredText (text : List ℕ) (tree : Tree) : Type 0 where
  pub storable : IsStorable tree
  pub spelled : text ≡ canonical_text tree
