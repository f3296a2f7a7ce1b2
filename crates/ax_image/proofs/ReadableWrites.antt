-- The changes of a write can be read, where the tree is a document that a store can hold.
use Rattle.std.proofs.Common.{ℕ, refl}
use Rattle.std.specs.List.{AllByRecursion}
use Rattle.ax_tree.specs.declared.tree.Tree.{Tree}
use Rattle.ax_tree.specs.CanonicalText.{canonical_text}
use Rattle.ax_storable.specs.Storable.{IsStorable}
use Rattle.ax_image_grammar.specs.Payloads.{IsReadable, IsDocumentText}
use Rattle.ax_image.specs.Readable.{newest}
use Rattle.ax_image.specs.WriteChanges.{replacing_changes, creating_changes, deleting_changes}

text_is : (tree : Tree) → IsStorable tree → IsDocumentText newest (canonical_text tree)
text_is tree storable = record {
  tree = tree;
  document = storable.document;
  well_formed = storable.well_formed;
  shallow = storable.shallow;
  named = storable.named;
  small = storable.small;
  fits = storable.fits;
  spelled = refl;
}

pub replacing_readable : (number policy : ℕ) (tree : Tree) → IsStorable tree
    → AllByRecursion (IsReadable newest) (replacing_changes number policy tree)
replacing_readable number policy tree storable = (text_is tree storable, tt)

pub creating_readable : (number policy : ℕ) (tree : Tree) → IsStorable tree
    → AllByRecursion (IsReadable newest) (creating_changes number policy tree)
creating_readable number policy tree storable = (tt, (text_is tree storable, tt))

pub deleting_readable : (number : ℕ) → AllByRecursion (IsReadable newest) (deleting_changes number)
deleting_readable number = (tt, tt)
