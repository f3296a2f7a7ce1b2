-- The numbers of a well formed tree fit.
use Rattle.std.proofs.Common.{◌≡◌, List, [], ◌∷◌, map, Bool, true, ◌&&◌, refl, sym, ap₂, ◌∙◌, subst}
use Rattle.std.proofs.lemmas.Bool.{and_parts}
use Rattle.std.specs.List.{list_all}
use Rattle.std.specs.Str.{is_utf8}
use Rattle.ax_tree.specs.declared.members.Member.{Member}
use Rattle.ax_tree.specs.declared.tree.Tree.{Tree}
use Rattle.ax_tree.specs.declared.tree.Tree.TheOpen.{Tree-F}
use Rattle.ax_tree.specs.declared.tree.Tree.TheViews.{roll-Tree}
use Rattle.ax_tree.specs.declared.tree.Tree.TheFolds.{map-Tree, fold-roll-Tree, ind-Tree}
use Rattle.ax_tree.specs.Names.{names}
use Rattle.ax_tree.specs.Rising.{is_rising}
use Rattle.ax_tree.specs.WellFormed.{numbers_level, numbers_fit, NumbersFit, well_formed_level, is_well_formed, IsWellFormed}

formed-roll : (x : Tree-F Tree)
    → is_well_formed (roll-Tree x) ≡ well_formed_level (map-Tree Tree Bool is_well_formed x)
formed-roll = fold-roll-Tree Bool well_formed_level

numbers-roll : (x : Tree-F Tree)
    → numbers_fit (roll-Tree x) ≡ numbers_level (map-Tree Tree Bool numbers_fit x)
numbers-roll = fold-roll-Tree Bool numbers_level

abbrev IsKept : Tree → Type 0
IsKept t = IsWellFormed t → NumbersFit t

abbrev Kept : Type 0
Kept = (t : Tree) × IsKept t

abbrev tree_of : Kept → Tree
tree_of e = e.0

abbrev member_of : Member Kept → Member Tree
member_of m = record { name = m.name; value = tree_of m.value }

-- a name beside whether the value is well formed, and whether its numbers fit
abbrev judged : Member Tree → Member Bool
judged m = record { name = m.name; value = is_well_formed m.value }

abbrev fitting : Member Tree → Member Bool
fitting m = record { name = m.name; value = numbers_fit m.value }

items_fit : (es : List Kept) → list_all (λ item. item) (map is_well_formed (map tree_of es)) ≡ true
    → list_all (λ item. item) (map numbers_fit (map tree_of es)) ≡ true
items_fit [] h = refl
items_fit (e ∷ es) h =
    let p = and_parts (is_well_formed e.0) _ h in ap₂ (λ a b. a && b) (e.1 p.0) (items_fit es p.1)

members_fit : (ms : List (Member Kept))
    → list_all (λ m. is_utf8 m.name && m.value) (map judged (map member_of ms)) ≡ true
    → list_all (λ m. m.value) (map fitting (map member_of ms)) ≡ true
members_fit [] h = refl
members_fit (m ∷ ms) h =
    let p = and_parts (is_utf8 m.name && is_well_formed m.value.0) _ h in
    let q = and_parts (is_utf8 m.name) (is_well_formed m.value.0) p.0 in
    ap₂ (λ a b. a && b) (m.value.1 q.1) (members_fit ms p.1)

level : (y : Tree-F Kept) → let x =
    map-Tree Kept Tree tree_of y in well_formed_level (map-Tree Tree Bool is_well_formed x) ≡ true
    → numbers_level (map-Tree Tree Bool numbers_fit x) ≡ true
level Tree-F.Null h = refl
level (Tree-F.Truth b) h = refl
level (Tree-F.Number z) h = h
level (Tree-F.Text s) h = refl
level (Tree-F.List es) h = items_fit es h
level (Tree-F.Object ms) h =
    members_fit ms (and_parts (is_rising (names (map judged (map member_of ms)))) _ h).1

roll_kept : (y : Tree-F Kept) → IsKept (roll-Tree (map-Tree Kept Tree tree_of y))
roll_kept y = let x = map-Tree Kept Tree tree_of y in λ h. numbers-roll x
    ∙ level y (sym (formed-roll x) ∙ h)

pub numbers_fit-well_formed : (t : Tree) → IsWellFormed t → NumbersFit t
numbers_fit-well_formed =
    ind-Tree IsKept (λ x y is. subst (λ z. IsKept (roll-Tree z)) is (roll_kept y))
