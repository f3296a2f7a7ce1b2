-- The test of sameness tells exactly the trees that are the same.
use Rattle.std.proofs.Common.{◌≡◌, ℕ, List, [], ◌∷◌, map, Bool, true, false, ◌&&◌, refl, sym, ap, ap₂, ◌∙◌, subst}
use Rattle.std.proofs.lemmas.Bool.{and_parts, false≢true}
use Rattle.std.proofs.lemmas.Bool.Decides.{Decides-int_eq}
use Rattle.std.proofs.lemmas.Slice.Eq.{bytes_eq-Decides}
use Rattle.std.specs.Bool.{beq}
use Rattle.std.specs.Str.{bytes_eq}
use Rattle.ax_tree.specs.declared.members.Member.{Member}
use Rattle.ax_tree.specs.declared.tree.Tree.{Tree, out-Tree}
use Rattle.ax_tree.specs.declared.tree.Tree.TheOpen.{Tree-F}
use Rattle.ax_tree.specs.declared.tree.Tree.TheViews.{roll-Tree, out-roll-Tree, roll-out-Tree}
use Rattle.ax_tree.specs.declared.tree.Tree.TheFolds.{map-Tree, fold-roll-Tree, ind-Tree}
use Rattle.ax_mean.specs.Sameness.{all_pass, all_members_pass, same_level, is_same, member_test}

same-roll : (x : Tree-F Tree)
    → is_same
    (roll-Tree x) ≡ (λ other. same_level (map-Tree Tree (Tree → Bool) is_same x) (out-Tree other))
same-roll = fold-roll-Tree (Tree → Bool) (λ level other. same_level level (out-Tree other))

-- a tree that is the same as another is that tree, and each is the same as itself
record IsTold (t : Tree) : Type 0 where
  same : (other : Tree) → is_same t other ≡ true → t ≡ other
  itself : is_same t t ≡ true

abbrev Kept : Type 0
Kept = (t : Tree) × IsTold t

abbrev tree_of : Kept → Tree
tree_of e = e.0

abbrev member_of : Member Kept → Member Tree
member_of m = record { name = m.name; value = tree_of m.value }

member : List ℕ → Tree → Member Tree
member name value = record { name = name; value = value }

bools_same : (a b : Bool) → beq a b ≡ true → a ≡ b
bools_same true true h = refl
bools_same true false h = absurd (false≢true h)
bools_same false true h = absurd (false≢true h)
bools_same false false h = refl

bool_itself : (a : Bool) → beq a a ≡ true
bool_itself true = refl
bool_itself false = refl

items_same : (es : List Kept) (xs : List Tree) → all_pass (map is_same (map tree_of es)) xs ≡ true
    → map tree_of es ≡ xs
items_same [] [] h = refl
items_same [] (x ∷ xs) h = absurd (false≢true h)
items_same (e ∷ es) [] h = absurd (false≢true h)
items_same (e ∷ es) (x ∷ xs) h =
    let p = and_parts (is_same e.0 x) _ h in ap₂ (λ y ys. y ∷ ys) (e.1.same x p.0)
    (items_same es xs p.1)

items_themselves : (es : List Kept)
    → all_pass (map is_same (map tree_of es)) (map tree_of es) ≡ true
items_themselves [] = refl
items_themselves (e ∷ es) = ap₂ (λ a b. a && b) e.1.itself (items_themselves es)

members_same : (ms : List (Member Kept)) (xs : List (Member Tree))
    → all_members_pass (map member_test (map member_of ms)) xs ≡ true → map member_of ms ≡ xs
unfolding member
members_same [] [] h = refl
members_same [] (x ∷ xs) h = absurd (false≢true h)
members_same (m ∷ ms) [] h = absurd (false≢true h)
members_same (m ∷ ms) (x ∷ xs) h =
    let p = and_parts (bytes_eq m.name x.name && is_same m.value.0 x.value) _ h in
    let q = and_parts (bytes_eq m.name x.name) (is_same m.value.0 x.value) p.0 in
    ap₂ (λ y ys. y ∷ ys)
    (ap₂ member ((bytes_eq-Decides m.name x.name).0 q.0) (m.value.1.same x.value q.1))
    (members_same ms xs p.1)

members_themselves : (ms : List (Member Kept))
    → all_members_pass (map member_test (map member_of ms)) (map member_of ms) ≡ true
members_themselves [] = refl
members_themselves (m ∷ ms) =
    ap₂ (λ a b. a && b)
    (ap₂ (λ a b. a && b) ((bytes_eq-Decides m.name m.name).1 refl) m.value.1.itself)
    (members_themselves ms)

level_same : (y : Tree-F Kept) (z : Tree-F Tree)
    → same_level (map-Tree Tree (Tree → Bool) is_same (map-Tree Kept Tree tree_of y)) z ≡ true
    → map-Tree Kept Tree tree_of y ≡ z
level_same Tree-F.Null Tree-F.Null h = refl
level_same (Tree-F.Truth a) (Tree-F.Truth b) h = ap Tree-F.Truth (bools_same a b h)
level_same (Tree-F.Number a) (Tree-F.Number b) h = ap Tree-F.Number ((Decides-int_eq a b).0 h)
level_same (Tree-F.Text a) (Tree-F.Text b) h = ap Tree-F.Text ((bytes_eq-Decides a b).0 h)
level_same (Tree-F.List es) (Tree-F.List xs) h = ap Tree-F.List (items_same es xs h)
level_same (Tree-F.Object ms) (Tree-F.Object xs) h = ap Tree-F.Object (members_same ms xs h)
level_same _ _ h = absurd (false≢true h)

level_itself : (y : Tree-F Kept)
    → same_level (map-Tree Tree (Tree → Bool) is_same (map-Tree Kept Tree tree_of y))
    (map-Tree Kept Tree tree_of y) ≡ true
level_itself Tree-F.Null = refl
level_itself (Tree-F.Truth a) = bool_itself a
level_itself (Tree-F.Number a) = (Decides-int_eq a a).1 refl
level_itself (Tree-F.Text a) = (bytes_eq-Decides a a).1 refl
level_itself (Tree-F.List es) = items_themselves es
level_itself (Tree-F.Object ms) = members_themselves ms

told_level : (y : Tree-F Kept) → IsTold (roll-Tree (map-Tree Kept Tree tree_of y))
told_level y =
    let x = map-Tree Kept Tree tree_of y in
    record {
      same =
          λ other h. ap roll-Tree
          (level_same y (out-Tree other) (sym (ap (λ f. f other) (same-roll x)) ∙ h))
          ∙ roll-out-Tree other;
      itself = ap (λ f. f (roll-Tree x)) (same-roll x)
          ∙ ap (same_level (map-Tree Tree (Tree → Bool) is_same x)) (out-roll-Tree x)
          ∙ level_itself y;
    }

told : (t : Tree) → IsTold t
told = ind-Tree IsTold (λ x y is. subst (λ z. IsTold (roll-Tree z)) is (told_level y))

pub same_trees : (a b : Tree) → is_same a b ≡ true → a ≡ b
same_trees a = (told a).same

pub same_along : (a b : Tree) → a ≡ b → is_same a b ≡ true
same_along a b e = ap (is_same a) (sym e) ∙ (told a).itself
