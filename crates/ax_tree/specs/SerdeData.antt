-- A tree as the data of `serde_json`, which reads and writes the same texts, and as the tokens of
-- `json` that are written for it. No public clause cites either.
use Rattle.std.specs.Prelude.{List, [], ◌∷◌, map}
use Rattle.json.specs.Token.{Token}
use Rattle.json.specs.Tree as shape
use Rattle.serde_json.specs.Data as serde
use Rattle.serde_json.specs.Find.{of_integer}
use Rattle.serde_json.specs.View.{items_of}
use Rattle.serde_json.specs.Written.{outline, items_outline, members_outline}
use Rattle.ax_tree.specs.declared.members.Member.{Member}
use Rattle.ax_tree.specs.declared.tree.Tree.{Tree, fold-Tree}
use Rattle.ax_tree.specs.declared.tree.Tree.TheOpen.{Tree-F}

abbrev pub data_members : List (Member serde.Data) → serde.Members
data_members [] = serde.no_members
data_members (m ∷ ms) = serde.member m.name m.value (data_members ms)

-- one level of a tree, whose children are seen as their data
abbrev pub data_level : Tree-F serde.Data → serde.Data
data_level Tree-F.Null = serde.null
data_level (Tree-F.Truth value) = serde.boolean value
data_level (Tree-F.Number value) = serde.number (of_integer value)
data_level (Tree-F.Text value) = serde.string value
data_level (Tree-F.List items) = serde.array (items_of items)
data_level (Tree-F.Object members) = serde.object (data_members members)

abbrev pub data_of : Tree → serde.Data
data_of = fold-Tree serde.Data data_level

-- a member, whose value is seen as its data
abbrev pub member_data : Member Tree → Member serde.Data
member_data m = record { name = m.name; value = data_of m.value }

-- the tokens of a tree
abbrev pub tree_tokens : Tree → List Token
tree_tokens tree = shape.json_tokens (outline (data_of tree))

-- the tokens of a list's items, with the bracket that closes it
abbrev pub items_tokens : List Tree → List Token
items_tokens items = shape.items_tokens (items_outline (items_of (map data_of items)))

-- the tokens of a map's members, with the brace that closes it
abbrev pub members_tokens : List (Member Tree) → List Token
members_tokens members =
    shape.members_tokens (members_outline (data_members (map member_data members)))
