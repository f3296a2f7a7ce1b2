-- Whether each name in a tree is short enough for a document: the names of the members of all its
-- maps (objects of RFC 8259), at any depth, have at most 255 bytes each.
use Rattle.std.specs.Prelude.{ℕ, List, length, Bool, true, ◌&&◌, nat_le}
use Rattle.std.specs.List.{list_all}
use Rattle.ax_tree.specs.declared.tree.Tree.{Tree, fold-Tree}
use Rattle.ax_tree.specs.declared.tree.Tree.TheOpen.{Tree-F}

-- the most bytes that the name of a member has
abbrev pub most_name_bytes : ℕ
most_name_bytes = 255

abbrev pub is_short_name : List ℕ → Bool
is_short_name name = nat_le (length name) most_name_bytes

-- one level of a tree, whose children are seen as whether their names are short
abbrev pub short_names_level : Tree-F Bool → Bool
short_names_level Tree-F.Null = true
short_names_level (Tree-F.Truth value) = true
short_names_level (Tree-F.Number value) = true
short_names_level (Tree-F.Text text) = true
short_names_level (Tree-F.List items) = list_all (λ item. item) items
short_names_level (Tree-F.Object members) = list_all (λ m. is_short_name m.name && m.value) members

abbrev pub has_short_names : Tree → Bool
has_short_names = fold-Tree Bool short_names_level
