-- Trees that have the same leaves, in whatever order these stand: so do lists with the same elements,
-- and maps with the same members.
use Rattle.std.specs.Prelude.{◌≡◌, ◌↔◌, List}
use Rattle.std.specs.List.{Contains}
use Rattle.ax_tree.specs.declared.members.Member.{Member}
use Rattle.ax_tree.specs.declared.tree.Tree.{Tree}
use Rattle.ax_terms.specs.Leaves.{Leaf, leaves}

abbrev pub HaveSameLeaves : Tree → Tree → Type 0
HaveSameLeaves a b = (leaf : Leaf) → Contains (leaves a) leaf ↔ Contains (leaves b) leaf

-- for each element of the first list there is one of the second with the same leaves
abbrev pub HasItemsOf : List Tree → List Tree → Type 0
HasItemsOf a b = (x : Tree) → Contains a x → (y : Tree) × Contains b y × HaveSameLeaves x y

-- for each member of the first map there is one of the second with its name and the same leaves
abbrev pub HasMembersOf : List (Member Tree) → List (Member Tree) → Type 0
HasMembersOf a b =
    (m : Member Tree) → Contains a m
    → (n : Member Tree) × Contains b n × (m.name ≡ n.name) × HaveSameLeaves m.value n.value
