-- What a store holds under a number: the text of the document that the container has there.
-- It is this project's own; it comes from no public document.
use Rattle.std.specs.Prelude.{◌≡◌, ℕ, Some}
use Rattle.ax_tree.specs.declared.tree.Tree.{Tree}
use Rattle.ax_tree.specs.CanonicalText.{canonical_text}
use Rattle.ax_storable.specs.Storable.{IsStorable}
use Rattle.ax_area.specs.Contents.{Stored}
use Rattle.ax_container.specs.Container.{Container}
use Rattle.ax_skips.specs.Chosen.{document_at}

-- what is held is that of the document of the number
pub record IsDocumentAt (container : Container) (number : ℕ) (held : Stored) : Type 0 where
  pub tree : Tree
  pub at : document_at container number ≡ Some (number, tree)
  pub spelled : held.text ≡ canonical_text tree
  pub storable : IsStorable tree
