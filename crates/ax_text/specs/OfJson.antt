-- The tree that JSON is, by way of its data: JSON whose data has no tree is none.
use Rattle.std.specs.Prelude.{List, Option, option_and_then}
use Rattle.json.specs.Json as json
use Rattle.serde_json.specs.Data.{no_members}
use Rattle.serde_json.specs.Read.{of_json, of_items, of_members}
use Rattle.ax_tree.specs.declared.members.Member.{Member}
use Rattle.ax_tree.specs.declared.tree.Tree.{Tree}
use Rattle.ax_text.specs.TreeOf as tree_of

abbrev pub tree_of_json : json.Json → Option Tree
tree_of_json value = option_and_then tree_of.tree_of (of_json value)

abbrev pub items_of_json : json.Items → Option (List Tree)
items_of_json items = option_and_then tree_of.items_of (of_items items)

abbrev pub members_of_json : json.Members → Option (List (Member Tree))
members_of_json members = option_and_then tree_of.members_of (of_members members no_members)
