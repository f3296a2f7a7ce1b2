-- Which documents a store can hold, and what the limit is that one breaks which it can't hold.
-- It is this project's own; it comes from no public document.
use Rattle.std.specs.Prelude.{◌≡◌, ◌≤◌, ℕ, length, Bool, true, not, ◌||◌, nat_lt, is_some}
use Rattle.ax_tree.specs.declared.tree.Tree.{Tree}
use Rattle.ax_tree.specs.CanonicalText.{canonical_text}
use Rattle.ax_tree.specs.Document.{IsDocument, document_id}
use Rattle.ax_tree.specs.Nesting.{nesting}
use Rattle.ax_tree.specs.WellFormed.{IsWellFormed}
use Rattle.ax_storable.specs.IndexLimits.{fits_index}
use Rattle.ax_storable.specs.ShortNames.{has_short_names}

-- the deepest that a document may nest
abbrev pub deepest : ℕ
deepest = 100

-- the most bytes that the canonical text of a document has
abbrev pub most_bytes : ℕ
most_bytes = 60000

-- the tree is a document that a store can hold
pub record IsStorable (tree : Tree) : Type 0 where
  pub document : IsDocument tree
  pub well_formed : IsWellFormed tree
  pub shallow : nesting tree ≤ deepest
  -- its member names are short
  pub named : has_short_names tree ≡ true
  pub small : length (canonical_text tree) ≤ most_bytes
  -- its paths are short, and its terms few
  pub fits : fits_index tree ≡ true

-- no id that a document can have is a member of the tree
abbrev pub has_no_id : Tree → Bool
has_no_id tree = not (is_some (document_id tree))

-- it nests too deep, a member name of it is too long, its text is too long, or the index can't hold it
abbrev pub is_too_large : Tree → Bool
is_too_large tree =
    nat_lt deepest (nesting tree)
    || (not (has_short_names tree) || (nat_lt most_bytes (length (canonical_text tree)) || not (fits_index tree)))
