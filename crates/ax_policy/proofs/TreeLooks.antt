-- Lists and maps looked at one level deep.
use Rattle.std.proofs.Common.{◌≡◌, List, rules}
use Rattle.ax_tree.specs.declared.members.Member.{Member}
use Rattle.ax_tree.specs.declared.tree.Tree as tree
use Rattle.ax_tree.specs.declared.tree.Tree.{Tree, out-Tree}
use Rattle.ax_tree.specs.declared.tree.Tree.TheOpen.{Tree-F}
use Rattle.ax_tree.specs.declared.tree.Tree.TheVariants as trees

pub out_list : (items : List Tree) → out-Tree (trees.List items) ≡ Tree-F.List items
out_list items = search (rules, tree.the_lemmas)

pub out_object : (members : List (Member Tree)) → out-Tree (trees.Object members) ≡ Tree-F.Object members
out_object members = search (rules, tree.the_lemmas)
