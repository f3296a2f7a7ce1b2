-- The tree that data of JSON (RFC 8259) is. A number is whole where `serde_json` reads it as a
-- whole number from -2^63 to 2^63 - 1; data that holds another number is no tree.
use Rattle.std.specs.Prelude.{ℕ, List, [], ◌∷◌, Option, Some, option_map, option_and_then}
use Rattle.serde_json.specs.Data as serde
use Rattle.serde_json.specs.Find.{as_i64}
use Rattle.ax_tree.specs.declared.members.Member.{Member}
use Rattle.ax_tree.specs.declared.tree.Tree as tree

-- an item before the rest, where both are there
abbrev pub both : {A : Type 0} → Option A → Option (List A) → Option (List A)
both first rest = option_and_then (λ a. option_map (λ l. a ∷ l) rest) first

-- a member, where its value is a tree
abbrev pub named : List ℕ → Option tree.Tree → Option (Member tree.Tree)
named name value = option_map (λ t. record { name = name; value = t }) value

-- the tree that data is
abbrev mutual
  pub tree_of : serde.Data → Option tree.Tree
  tree_of serde.null = Some tree.Null
  tree_of (serde.boolean value) = Some (tree.Truth value)
  tree_of (serde.number value) = option_map tree.Number (as_i64 value)
  tree_of (serde.string text) = Some (tree.Text text)
  tree_of (serde.array items) = option_map tree.List (items_of items)
  tree_of (serde.object members) = option_map tree.Object (members_of members)

  pub items_of : serde.Items → Option (List tree.Tree)
  items_of serde.no_items = Some []
  items_of (serde.item first rest) = both (tree_of first) (items_of rest)

  pub members_of : serde.Members → Option (List (Member tree.Tree))
  members_of serde.no_members = Some []
  members_of (serde.member name value rest) = both (named name (tree_of value)) (members_of rest)
