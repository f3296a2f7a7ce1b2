-- The leaves of a tree, which an index holds: its scalars, empty lists and empty maps, each with the
-- path to it. All elements of a list are behind one step. As in Shukla et al. (VLDB 2015).
use Rattle.std.specs.Prelude.{List, [], ◌∷◌, ◌++◌, map}
use Rattle.std.specs.List.{flat_map}
use Rattle.ax_tree.specs.declared.members.Member.{Member}
use Rattle.ax_tree.specs.declared.tree.Tree as tree
use Rattle.ax_tree.specs.declared.tree.Tree.{Tree, fold-Tree}
use Rattle.ax_tree.specs.declared.tree.Tree.TheOpen.{Tree-F}
use Rattle.ax_mean.specs.declared.query.Step.{Step}
use Rattle.ax_mean.specs.declared.query.Step.TheVariants.{Name, Item}

-- a leaf: the path to it, and the tree that it is
pub record Leaf : Type 0 where
  pub path : List Step
  pub tree : Tree

-- a tree that is a leaf itself
abbrev pub alone : Tree → List Leaf
alone given = record { path = []; tree = given } ∷ []

-- a leaf seen from one step above
abbrev pub behind : Step → Leaf → Leaf
behind step leaf = record { path = step ∷ leaf.path; tree = leaf.tree }

-- the leaves of an element of a list, seen from the list
abbrev pub item_leaves : List Leaf → List Leaf
item_leaves leaves = map (behind Item) leaves

-- the leaves of a member, seen from the map
abbrev pub member_leaves : Member (List Leaf) → List Leaf
member_leaves m = map (behind (Name m.name)) m.value

-- those of a list by those of its elements, and of a map by those of its members
abbrev pub list_leaves : List (List Leaf) → List Leaf
list_leaves [] = alone (tree.List [])
list_leaves (first ∷ rest) = flat_map item_leaves (first ∷ rest)

abbrev pub map_leaves : List (Member (List Leaf)) → List Leaf
map_leaves [] = alone (tree.Object [])
map_leaves (first ∷ rest) = flat_map member_leaves (first ∷ rest)

-- one level of a tree, whose children are seen as their leaves
abbrev pub leaves_level : Tree-F (List Leaf) → List Leaf
leaves_level Tree-F.Null = alone tree.Null
leaves_level (Tree-F.Truth value) = alone (tree.Truth value)
leaves_level (Tree-F.Number value) = alone (tree.Number value)
leaves_level (Tree-F.Text value) = alone (tree.Text value)
leaves_level (Tree-F.List items) = list_leaves items
leaves_level (Tree-F.Object members) = map_leaves members

abbrev pub leaves : Tree → List Leaf
leaves = fold-Tree (List Leaf) leaves_level

-- a member beside the leaves of its value
abbrev pub leaves_in : Member Tree → Member (List Leaf)
leaves_in m = record { name = m.name; value = leaves m.value }

-- a leaf of the tree at that path, seen from the top
abbrev pub below : List Step → Leaf → Leaf
below path leaf = record { path = path ++ leaf.path; tree = leaf.tree }
