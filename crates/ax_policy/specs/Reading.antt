-- How lists in a tree are read: every item has to be readable.
use Rattle.std.specs.Prelude.{List, [], ◌∷◌, Option, Some, None, option_map, option_and_then}
use Rattle.ax_tree.specs.declared.tree.Tree.{Tree, out-Tree}
use Rattle.ax_tree.specs.declared.tree.Tree.TheOpen.{Tree-F}

-- an item before the rest, where both are there
abbrev pub both : {A : Type 0} → Option A → Option (List A) → Option (List A)
both first rest = option_and_then (λ a. option_map (λ l. a ∷ l) rest) first

-- what is read of all items, where each can be read
abbrev pub read_all : {A B : Type 0} → (A → Option B) → List A → Option (List B)
read_all read [] = Some []
read_all read (first ∷ rest) = both (read first) (read_all read rest)

abbrev pub list_value_level : Tree-F Tree → Option (List Tree)
list_value_level (Tree-F.List items) = Some items
list_value_level Tree-F.Null = None
list_value_level (Tree-F.Truth value) = None
list_value_level (Tree-F.Number value) = None
list_value_level (Tree-F.Text value) = None
list_value_level (Tree-F.Object members) = None

-- the list that a tree is
abbrev pub list_value : Tree → Option (List Tree)
list_value tree = list_value_level (out-Tree tree)

-- the list of a member, which is empty where the member is absent
abbrev pub trees_of : Option Tree → Option (List Tree)
trees_of None = Some []
trees_of (Some tree) = list_value tree
