-- The changes by which a write of a document is written: the document under its number; before it, where it is
-- created, the next number; and that it is gone, where it is deleted.
-- From the store's own file format (docs/FORMAT.md, "Parts"); no other document has it.
use Rattle.std.specs.Prelude.{ℕ, ◌+◌, List, [], ◌∷◌, None}
use Rattle.ax_area.specs.Changes.{Change}
use Rattle.ax_area.specs.Changes as change
use Rattle.ax_tree.specs.declared.tree.Tree.{Tree}
use Rattle.ax_tree.specs.CanonicalText.{canonical_text}

-- the document of that number, under that policy; it says no version
abbrev pub document_change : ℕ → ℕ → Tree → Change
document_change number policy tree =
    change.Document number (record { policy = policy; version = None; text = canonical_text tree })

-- the next number, and the number of the policy now
abbrev pub meta_change : ℕ → ℕ → Change
meta_change next policy = change.Meta (record { next = next; policy = policy; version = None })

abbrev pub replacing_changes : ℕ → ℕ → Tree → List Change
replacing_changes number policy tree = document_change number policy tree ∷ []

abbrev pub creating_changes : ℕ → ℕ → Tree → List Change
creating_changes number policy tree =
    meta_change (number + 1) policy ∷ document_change number policy tree ∷ []

-- the document is gone
abbrev pub deleting_changes : ℕ → List Change
deleting_changes number = change.Gone number ∷ []
