-- What is read of a text whole: the tree that its bytes stand for, whatever they are.
use Rattle.std.specs.Prelude.{◌≡◌, ℕ, List, [], ◌∷◌, Option, Some, None}
use Rattle.ax_tree.specs.declared.tree.Tree.{Tree}
use Rattle.ax_skim.specs.Members.{past_prefix}
use Rattle.ax_text.specs.Reading.{Reading, Stands, NotJson, NotWhole, reading}

abbrev pub tree_in : Reading → Option Tree
tree_in (Stands tree) = Some tree
tree_in NotJson = None
tree_in NotWhole = None

-- none of bytes that stand for no tree
abbrev pub tree_read : List ℕ → Option Tree
tree_read text = tree_in (reading text)

-- the bytes do not begin as the text of a map
abbrev pub IsNoMap : List ℕ → Type 0
IsNoMap text = past_prefix (123 ∷ []) text ≡ None
