-- The leaves of a list and of a map are a set that no order matters to.
use Rattle.std.proofs.Common.{◌≡◌, List, [], ◌∷◌, map, sym, subst, rules}
use Rattle.std.specs.List.{Contains, flat_map}
use Rattle.ax_tree.specs.declared.members.Member.{Member}
use Rattle.ax_tree.specs.declared.tree.Tree as tree
use Rattle.ax_tree.specs.declared.tree.Tree.{Tree}
use Rattle.ax_mean.specs.declared.query.Step.TheVariants.{Item, Name}
use Rattle.ax_terms.specs.Leaves.{Leaf, behind, item_leaves, leaves, leaves_in, list_leaves, map_leaves, member_leaves}
use Rattle.ax_terms.specs.SameLeaves.{HasItemsOf, HasMembersOf, HaveSameLeaves}
use Rattle.ax_terms.proofs.Sequences.{contains_first, contains_flat_map, contains_map, from_flat_map, from_map, none_in_nil}

abbrev of_items : List Tree → List Leaf
of_items ts = flat_map item_leaves (map leaves ts)

abbrev of_members : List (Member Tree) → List Leaf
of_members ms = flat_map member_leaves (map leaves_in ms)

-- what is behind a step is there on both sides
behind_both : (a b : Tree) (step : _) (leaf : Leaf) → HaveSameLeaves a b
    → Contains (map (behind step) (leaves a)) leaf → Contains (map (behind step) (leaves b)) leaf
behind_both a b step leaf same h =
    let x = from_map (behind step) (leaves a) leaf h in
    subst (Contains (map (behind step) (leaves b))) x.2
    (contains_map (behind step) (leaves b) x.0 ((same x.0).0 x.1))

items_one_way : (a b : List Tree) → HasItemsOf a b → (leaf : Leaf) → Contains (of_items a) leaf
    → Contains (of_items b) leaf
items_one_way a b has leaf h =
    let part = from_flat_map item_leaves (map leaves a) leaf h in
    let x = from_map leaves a part.0 part.1 in
    let y = has x.0 x.1 in
    contains_flat_map item_leaves (map leaves b) (leaves y.0) leaf (contains_map leaves b y.0 y.1)
    (behind_both x.0 y.0 Item leaf y.2 (subst (λ ls. Contains (item_leaves ls) leaf) (sym x.2) part.2))

list_roll : (ts : List Tree) → leaves (tree.List ts) ≡ list_leaves (map leaves ts)
list_roll ts = search (rules, tree.the_lemmas)

same_lists : (a b : List Tree) → HasItemsOf a b → HasItemsOf b a → (leaf : Leaf)
    → Contains (list_leaves (map leaves a)) leaf → Contains (list_leaves (map leaves b)) leaf
same_lists [] [] f g leaf h = h
same_lists [] (y ∷ b) f g leaf h = let x = g y (contains_first y b) in absurd (none_in_nil x.0 x.1)
same_lists (x ∷ a) [] f g leaf h = let y = f x (contains_first x a) in absurd (none_in_nil y.0 y.1)
same_lists (x ∷ a) (y ∷ b) f g leaf h = items_one_way (x ∷ a) (y ∷ b) f leaf h

pub any_items : (a b : List Tree) → HasItemsOf a b → HasItemsOf b a
    → HaveSameLeaves (tree.List a) (tree.List b)
any_items a b f g leaf = (
  (λ h.
      subst (λ ls. Contains ls leaf) (sym (list_roll b))
      (same_lists a b f g leaf (subst (λ ls. Contains ls leaf) (list_roll a) h))),
  (λ h.
      subst (λ ls. Contains ls leaf) (sym (list_roll a))
      (same_lists b a g f leaf (subst (λ ls. Contains ls leaf) (list_roll b) h))),
)

members_one_way : (a b : List (Member Tree)) → HasMembersOf a b → (leaf : Leaf)
    → Contains (of_members a) leaf → Contains (of_members b) leaf
members_one_way a b has leaf h =
    let part = from_flat_map member_leaves (map leaves_in a) leaf h in
    let m = from_map leaves_in a part.0 part.1 in
    let n = has m.0 m.1 in
    contains_flat_map member_leaves (map leaves_in b) (leaves_in n.0) leaf (contains_map leaves_in b n.0 n.1)
    (behind_both m.0.value n.0.value (Name n.0.name) leaf n.3
    (subst (λ name. Contains (map (behind (Name name)) (leaves m.0.value)) leaf) n.2
    (subst (λ r. Contains (member_leaves r) leaf) (sym m.2) part.2)))

map_roll : (ms : List (Member Tree)) → leaves (tree.Object ms) ≡ map_leaves (map leaves_in ms)
map_roll ms = search (rules, tree.the_lemmas)

same_maps : (a b : List (Member Tree)) → HasMembersOf a b → HasMembersOf b a → (leaf : Leaf)
    → Contains (map_leaves (map leaves_in a)) leaf → Contains (map_leaves (map leaves_in b)) leaf
same_maps [] [] f g leaf h = h
same_maps [] (n ∷ b) f g leaf h = let m = g n (contains_first n b) in absurd (none_in_nil m.0 m.1)
same_maps (m ∷ a) [] f g leaf h = let n = f m (contains_first m a) in absurd (none_in_nil n.0 n.1)
same_maps (m ∷ a) (n ∷ b) f g leaf h = members_one_way (m ∷ a) (n ∷ b) f leaf h

pub any_members : (a b : List (Member Tree)) → HasMembersOf a b → HasMembersOf b a
    → HaveSameLeaves (tree.Object a) (tree.Object b)
any_members a b f g leaf = (
  (λ h.
      subst (λ ls. Contains ls leaf) (sym (map_roll b))
      (same_maps a b f g leaf (subst (λ ls. Contains ls leaf) (map_roll a) h))),
  (λ h.
      subst (λ ls. Contains ls leaf) (sym (map_roll a))
      (same_maps b a g f leaf (subst (λ ls. Contains ls leaf) (map_roll b) h))),
)
