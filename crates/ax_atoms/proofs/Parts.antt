-- A part of a document at some steps has its leaves among those of the document, behind the path of
-- these steps; every tree has a leaf, and a scalar is its only one.
use Rattle.std.proofs.Common.{◌≡◌, ℕ, zero, suc, List, [], ◌∷◌, map, Bool, true, false, cond, Some, option_map, option_and_then, slice_get, nat_le}
use Rattle.std.proofs.Common.{◌&&◌, refl, sym, ap, ◌∙◌, subst}
use Rattle.std.proofs.lemmas.Bool.{false≢true}
use Rattle.std.proofs.lemmas.Slice.Eq.{bytes_eq-Decides}
use Rattle.std.specs.List.{Contains, flat_map, find}
use Rattle.std.specs.Str.{bytes_eq}
use Rattle.ax_tree.specs.Document.{member_level, value_of}
use Rattle.ax_tree.specs.declared.members.Member.{Member}
use Rattle.ax_tree.specs.declared.tree.Tree as tree
use Rattle.ax_tree.specs.declared.tree.Tree.{Tree, out-Tree}
use Rattle.ax_tree.specs.declared.tree.Tree.TheOpen.{Tree-F}
use Rattle.ax_tree.specs.declared.tree.Tree.TheViews.{roll-Tree, roll-out-Tree}
use Rattle.ax_tree.specs.declared.tree.Tree.TheFolds.{map-Tree, fold-roll-Tree, ind-Tree}
use Rattle.ax_tree.specs.declared.tree.Tree.TheVariants.{rolls-Null, rolls-Truth, rolls-Number, rolls-Text}
use Rattle.ax_mean.specs.declared.expr.QueryStep.{QueryStep}
use Rattle.ax_mean.specs.declared.expr.QueryStep.TheVariants as query_step
use Rattle.ax_mean.specs.declared.query.Step.TheVariants.{Name, Item}
use Rattle.ax_mean.specs.declared.value.Value.{Value}
use Rattle.ax_mean.specs.declared.value.Value.TheVariants.{Undefined, Defined}
use Rattle.ax_mean.specs.Comparison.{is_scalar}
use Rattle.ax_mean.specs.Steps.{step_from, steps_from}
use Rattle.ax_mean.specs.Values.{of_tree, list_level, kind_level}
use Rattle.ax_terms.specs.Leaves.{Leaf, alone, behind, below, item_leaves, leaves, leaves_in, leaves_level, list_leaves, map_leaves, member_leaves}
use Rattle.ax_atoms.specs.Recognised.{step_of}
use Rattle.ax_terms.proofs.Sequences.{contains_first, contains_later, contains_map, contains_flat_map, none_in_nil}

pub leaves-roll : (x : Tree-F Tree)
    → leaves (roll-Tree x) ≡ leaves_level (map-Tree Tree (List Leaf) leaves x)
leaves-roll = fold-roll-Tree (List Leaf) leaves_level

pub nothing_is : {A : Type 0} (v : Tree) → Undefined ≡ Defined v → A
nothing_is v h = absurd (let e : ⊥ = cc in e)

pub one_tree : (a b : Tree) → Defined a ≡ Defined b → a ≡ b
one_tree a b h = cc

-- ---- a member of a map

record Named (ms : List (Member Tree)) (name : List ℕ) (v : Tree) : Type 0 where
  m : Member Tree
  is : Contains ms m
  name_is : m.name ≡ name
  value_is : m.value ≡ v

abbrev value_in : Member Tree → Tree
value_in m = m.value

named : (ms : List (Member Tree)) (name : List ℕ) (v : Tree)
    → of_tree (value_of name ms) ≡ Defined v → Named ms name v
named [] name v h = nothing_is v h
named (m ∷ ms) name v h =
    pick m ms name v (bytes_eq m.name name) refl h (named ms name v)
  where
    later : (m : Member Tree) (ms : List (Member Tree)) (name : List ℕ) (v : Tree)
        → Named ms name v → Named (m ∷ ms) name v
    later m ms name v n =
        record {
          m = n.m;
          is = contains_later m ms n.m n.is;
          name_is = n.name_is;
          value_is = n.value_is;
        }

    pick : (m : Member Tree) (ms : List (Member Tree)) (name : List ℕ) (v : Tree) (b : Bool)
        → bytes_eq m.name name ≡ b
        → of_tree (option_map value_in (cond b (Some m) (find (λ m. bytes_eq m.name name) ms))) ≡ Defined v
        → (of_tree (value_of name ms) ≡ Defined v → Named ms name v)
        → Named (m ∷ ms) name v
    pick m ms name v true is h rest =
        record {
          m = m;
          is = contains_first m ms;
          name_is = (bytes_eq-Decides m.name name).0 is;
          value_is = one_tree m.value v h;
        }
    pick m ms name v false is h rest = later m ms name v (rest h)

some_of_map : (ls : List (Member (List Leaf))) (l : Member (List Leaf)) → Contains ls l
    → flat_map member_leaves ls ≡ map_leaves ls
some_of_map [] l h = absurd (none_in_nil l h)
some_of_map (x ∷ ls) l h = refl

leaf_of_member : (ms : List (Member Tree)) (name : List ℕ) (v : Tree) (leaf : Leaf)
    → Named ms name v → Contains (leaves v) leaf
    → Contains (map_leaves (map leaves_in ms)) (behind (Name name) leaf)
leaf_of_member ms name v leaf n is =
    let own : Contains (leaves n.m.value) leaf =
    subst (λ t. Contains (leaves t) leaf) (sym n.value_is) is in
    let behind_it : Contains (member_leaves (leaves_in n.m)) (behind (Name n.m.name) leaf) =
    contains_map (behind (Name n.m.name)) (leaves n.m.value) leaf own in
    let there : Contains (map leaves_in ms) (leaves_in n.m) = contains_map leaves_in ms n.m n.is in
    subst (λ ls. Contains ls (behind (Name name) leaf)) (some_of_map (map leaves_in ms) (leaves_in n.m) there)
    (subst (λ name. Contains (flat_map member_leaves (map leaves_in ms)) (behind (Name name) leaf)) n.name_is
    (contains_flat_map member_leaves (map leaves_in ms) (leaves_in n.m) (behind (Name n.m.name) leaf) there behind_it))

member_leaf : (x : Tree-F Tree) (name : List ℕ) (v : Tree) (leaf : Leaf)
    → of_tree (member_level name x) ≡ Defined v → Contains (leaves v) leaf
    → Contains (leaves (roll-Tree x)) (behind (Name name) leaf)
member_leaf (Tree-F.Object ms) name v leaf h is =
    subst (λ ls. Contains ls (behind (Name name) leaf)) (sym (leaves-roll (Tree-F.Object ms)))
    (leaf_of_member ms name v leaf (named ms name v h) is)
member_leaf x name v leaf h is = nothing_is v h

-- ---- an element of a list

pub element_at : (items : List Tree) (at : ℕ) (v : Tree) → of_tree (slice_get items at) ≡ Defined v
    → Contains items v
element_at [] at v h = nothing_is v h
element_at (item ∷ items) zero v h =
    subst (λ t. Contains (item ∷ items) t) (one_tree item v h) (contains_first item items)
element_at (item ∷ items) (suc at) v h = contains_later item items v (element_at items at v h)

some_of_list : (ls : List (List Leaf)) (l : List Leaf) → Contains ls l
    → flat_map item_leaves ls ≡ list_leaves ls
some_of_list [] l h = absurd (none_in_nil l h)
some_of_list (x ∷ ls) l h = refl

pub leaf_of_item : (items : List Tree) (v : Tree) (leaf : Leaf) → Contains items v → Contains (leaves v) leaf
    → Contains (leaves (roll-Tree (Tree-F.List items))) (behind Item leaf)
leaf_of_item items v leaf there is =
    let among : Contains (map leaves items) (leaves v) = contains_map leaves items v there in
    subst (λ ls. Contains ls (behind Item leaf))
    (some_of_list (map leaves items) (leaves v) among ∙ sym (leaves-roll (Tree-F.List items)))
    (contains_flat_map item_leaves (map leaves items) (leaves v) (behind Item leaf) among
    (contains_map (behind Item) (leaves v) leaf is))

item_leaf : (x : Tree-F Tree) (at : ℕ) (v : Tree) (leaf : Leaf)
    → of_tree (option_and_then (λ items. slice_get items at) (list_level x)) ≡ Defined v
    → Contains (leaves v) leaf → Contains (leaves (roll-Tree x)) (behind Item leaf)
item_leaf (Tree-F.List items) at v leaf h is =
    leaf_of_item items v leaf (element_at items at v h) is
item_leaf x at v leaf h is = nothing_is v h

-- ---- a part behind steps

step_leaf : (t : Tree) (step : QueryStep) (v : Tree) (leaf : Leaf)
    → step_from (Defined t) step ≡ Defined v → Contains (leaves v) leaf
    → Contains (leaves t) (behind (step_of step) leaf)
step_leaf t (query_step.Member name) v leaf h is =
    subst (λ s. Contains (leaves s) (behind (Name name) leaf)) (roll-out-Tree t)
    (member_leaf (out-Tree t) name v leaf h is)
step_leaf t (query_step.Position at) v leaf h is =
    subst (λ s. Contains (leaves s) (behind Item leaf)) (roll-out-Tree t)
    (item_leaf (out-Tree t) at v leaf h is)

pub nowhere : (steps : List QueryStep) → steps_from Undefined steps ≡ Undefined
nowhere [] = refl
nowhere (step ∷ steps) = nowhere steps

abbrev LeafBelow : List QueryStep → Tree → Tree → Leaf → Type 0
LeafBelow steps w v leaf =
    steps_from (Defined w) steps ≡ Defined v → Contains (leaves w) (below (map step_of steps) leaf)

by_part : (step : QueryStep) (steps : List QueryStep) (t v : Tree) (leaf : Leaf) (part : Value)
    → step_from (Defined t) step ≡ part → steps_from part steps ≡ Defined v
    → ((w : Tree) → LeafBelow steps w v leaf)
    → Contains (leaves t) (below (map step_of (step ∷ steps)) leaf)
by_part step steps t v leaf Undefined e h rest = nothing_is v (sym (nowhere steps) ∙ h)
by_part step steps t v leaf (Defined w) e h rest =
    step_leaf t step w (below (map step_of steps) leaf) e (rest w h)

pub leaf_at : (steps : List QueryStep) (v : Tree) (leaf : Leaf) → Contains (leaves v) leaf → (t : Tree)
    → LeafBelow steps t v leaf
leaf_at [] v leaf is t h = subst (λ s. Contains (leaves s) leaf) (sym (one_tree t v h)) is
leaf_at (step ∷ steps) v leaf is t h =
    by_part step steps t v leaf (step_from (Defined t) step) refl h (leaf_at steps v leaf is)

-- ---- the leaves of a scalar, and some leaf of any tree

scalar_level : (x : Tree-F Tree) → (nat_le 1 (kind_level x) && nat_le (kind_level x) 4) ≡ true
    → leaves (roll-Tree x) ≡ alone (roll-Tree x)
scalar_level Tree-F.Null h = leaves-roll Tree-F.Null ∙ ap alone (sym rolls-Null)
scalar_level (Tree-F.Truth b) h = leaves-roll (Tree-F.Truth b) ∙ ap alone (sym (rolls-Truth b))
scalar_level (Tree-F.Number n) h = leaves-roll (Tree-F.Number n) ∙ ap alone (sym (rolls-Number n))
scalar_level (Tree-F.Text s) h = leaves-roll (Tree-F.Text s) ∙ ap alone (sym (rolls-Text s))
scalar_level (Tree-F.List items) h = absurd (false≢true h)
scalar_level (Tree-F.Object ms) h = absurd (false≢true h)

pub scalar_leaves : (v : Tree) → is_scalar (Defined v) ≡ true → leaves v ≡ alone v
scalar_leaves v h =
    subst (λ t. leaves t ≡ alone t) (roll-out-Tree v) (scalar_level (out-Tree v) h)

-- a scalar at some steps is a leaf there
pub scalar_leaf : (steps : List QueryStep) (t v : Tree) → steps_from (Defined t) steps ≡ Defined v
    → is_scalar (Defined v) ≡ true
    → Contains (leaves t) (below (map step_of steps) (record { path = []; tree = v }))
scalar_leaf steps t v h scalar =
    let leaf : Leaf = record { path = []; tree = v } in
    leaf_at steps v leaf (subst (λ ls. Contains ls leaf) (sym (scalar_leaves v scalar)) (contains_first leaf [])) t h

pub record HasSome (t : Tree) : Type 0 where
  pub leaf : Leaf
  pub is : Contains (leaves t) leaf

abbrev Kept : Type 0
Kept = (t : Tree) × HasSome t

abbrev tree_of : Kept → Tree
tree_of e = e.0

abbrev member_of : Member Kept → Member Tree
member_of m = record { name = m.name; value = tree_of m.value }

one_alone : (x : Tree-F Tree) (t : Tree) → leaves (roll-Tree x) ≡ alone t → HasSome (roll-Tree x)
one_alone x t is =
    record {
      leaf = record { path = []; tree = t };
      is = subst (λ ls. Contains ls (record { path = []; tree = t })) (sym is)
          (contains_first (record { path = []; tree = t }) []);
    }

some_level : (y : Tree-F Kept) → HasSome (roll-Tree (map-Tree Kept Tree tree_of y))
some_level (Tree-F.List (e ∷ es)) =
    record {
      leaf = behind Item e.1.leaf;
      is = leaf_of_item (e.0 ∷ map tree_of es) e.0 e.1.leaf (contains_first e.0 (map tree_of es)) e.1.is;
    }
some_level (Tree-F.Object (m ∷ ms)) =
    record {
      leaf = behind (Name m.name) m.value.1.leaf;
      is = subst (λ ls. Contains ls (behind (Name m.name) m.value.1.leaf))
          (sym (leaves-roll (Tree-F.Object (member_of m ∷ map member_of ms))))
          (leaf_of_member (member_of m ∷ map member_of ms) m.name m.value.0 m.value.1.leaf
          (record {
            m = member_of m;
            is = contains_first (member_of m) (map member_of ms);
            name_is = refl;
            value_is = refl;
          }) m.value.1.is);
    }
some_level (Tree-F.List []) = one_alone (Tree-F.List []) (tree.List []) (leaves-roll (Tree-F.List []))
some_level (Tree-F.Object []) = one_alone (Tree-F.Object []) (tree.Object []) (leaves-roll (Tree-F.Object []))
some_level Tree-F.Null = one_alone Tree-F.Null tree.Null (leaves-roll Tree-F.Null)
some_level (Tree-F.Truth b) = one_alone (Tree-F.Truth b) (tree.Truth b) (leaves-roll (Tree-F.Truth b))
some_level (Tree-F.Number n) = one_alone (Tree-F.Number n) (tree.Number n) (leaves-roll (Tree-F.Number n))
some_level (Tree-F.Text s) = one_alone (Tree-F.Text s) (tree.Text s) (leaves-roll (Tree-F.Text s))

pub some_leaf : (t : Tree) → HasSome t
some_leaf = ind-Tree HasSome (λ x y is. subst (λ z. HasSome (roll-Tree z)) is (some_level y))
