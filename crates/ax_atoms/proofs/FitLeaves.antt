-- Where the numbers of a tree fit, so do those of its leaves.
use Rattle.std.proofs.Common.{◌≡◌, ℕ, ℤ, List, [], ◌∷◌, map, Bool, true, false, ⊎_elim, sym, ◌∙◌, subst}
use Rattle.std.proofs.lemmas.Bool.{and_parts}
use Rattle.std.proofs.lemmas.List.Elements.{Contains-append_cases}
use Rattle.std.specs.List.{Contains, flat_map, list_all}
use Rattle.ax_tree.specs.WellFormed.{NumbersFit, numbers_fit, numbers_level}
use Rattle.ax_tree.specs.declared.members.Member.{Member}
use Rattle.ax_tree.specs.declared.tree.Tree as tree
use Rattle.ax_tree.specs.declared.tree.Tree.{Tree}
use Rattle.ax_tree.specs.declared.tree.Tree.TheOpen.{Tree-F}
use Rattle.ax_tree.specs.declared.tree.Tree.TheViews.{roll-Tree}
use Rattle.ax_tree.specs.declared.tree.Tree.TheFolds.{map-Tree, fold-roll-Tree, ind-Tree}
use Rattle.ax_mean.specs.declared.query.Step.TheVariants.{Name, Item}
use Rattle.ax_mean.specs.declared.value.Value.TheVariants.{Defined}
use Rattle.ax_term.specs.CutValues.{cut_of}
use Rattle.ax_terms.specs.Leaves.{Leaf, alone, behind, item_leaves, leaves, leaves_in, member_leaves}
use Rattle.ax_atoms.proofs.Found.{LeavesFit}
use Rattle.ax_atoms.proofs.Parts.{leaves-roll}
use Rattle.ax_atoms.proofs.Between.{IsFit}
use Rattle.ax_terms.proofs.Sequences.{from_map, none_in_nil, only_one}

fits-roll : (x : Tree-F Tree) → numbers_fit (roll-Tree x) ≡ numbers_level (map-Tree Tree Bool numbers_fit x)
fits-roll = fold-roll-Tree Bool numbers_level

abbrev Fit : Leaf → Type 0
Fit leaf = IsFit (cut_of (Defined leaf.tree))

record KeepsFit (t : Tree) : Type 0 where
  so : NumbersFit t → LeavesFit t

abbrev Kept : Type 0
Kept = (t : Tree) × KeepsFit t

abbrev tree_of : Kept → Tree
tree_of e = e.0

abbrev member_of : Member Kept → Member Tree
member_of m = record { name = m.name; value = tree_of m.value }

one_leaf : (x : Tree-F Tree) (t : Tree) → leaves (roll-Tree x) ≡ alone t
    → (NumbersFit (roll-Tree x) → IsFit (cut_of (Defined t))) → KeepsFit (roll-Tree x)
one_leaf x t is fit =
    record {
      so = λ h leaf there.
          subst Fit (only_one (record { path = []; tree = t }) leaf (subst (λ ls. Contains ls leaf) is there)) (fit h);
    }

number_fits : (n : ℤ) → NumbersFit (roll-Tree (Tree-F.Number n)) → IsFit (cut_of (Defined (tree.Number n)))
unfolding tree.out-Tree denote.Hole.Carrier.out
number_fits n h = sym (fits-roll (Tree-F.Number n)) ∙ h

truth_fits : (b : Bool) → IsFit (cut_of (Defined (tree.Truth b)))
unfolding tree.out-Tree denote.Hole.Carrier.out
truth_fits true = tt
truth_fits false = tt

others_fit : IsFit (cut_of (Defined tree.Null)) × IsFit (cut_of (Defined (tree.List []))) × IsFit (cut_of (Defined (tree.Object [])))
unfolding tree.out-Tree denote.Hole.Carrier.out
others_fit = (tt, tt, tt)

text_fits : (s : List ℕ) → IsFit (cut_of (Defined (tree.Text s)))
unfolding tree.out-Tree denote.Hole.Carrier.out
text_fits s = tt

items_fit : (es : List Kept) → list_all (λ item. item) (map numbers_fit (map tree_of es)) ≡ true
    → (leaf : Leaf) → Contains (flat_map item_leaves (map leaves (map tree_of es))) leaf → Fit leaf
items_fit [] h leaf there = absurd (none_in_nil leaf there)
items_fit (e ∷ es) h leaf there =
    let p = and_parts (numbers_fit e.0) _ h in
    ⊎_elim {C = Fit leaf}
    (λ (k : Contains (map (behind Item) (leaves e.0)) leaf).
    let own = from_map (behind Item) (leaves e.0) leaf k in
    subst Fit own.2 (e.1.so p.0 own.0 own.1))
    (λ (k : Contains (flat_map item_leaves (map leaves (map tree_of es))) leaf). items_fit es p.1 leaf k)
    (Contains-append_cases (item_leaves (leaves e.0)) (flat_map item_leaves (map leaves (map tree_of es))) leaf there)

abbrev fit_of_member : Member Tree → Member Bool
fit_of_member m = record { name = m.name; value = numbers_fit m.value }

members_fit : (ms : List (Member Kept)) → list_all (λ (m : Member Bool). m.value) (map fit_of_member (map member_of ms)) ≡ true
    → (leaf : Leaf) → Contains (flat_map member_leaves (map leaves_in (map member_of ms))) leaf → Fit leaf
members_fit [] h leaf there = absurd (none_in_nil leaf there)
members_fit (m ∷ ms) h leaf there =
    let p = and_parts (numbers_fit m.value.0) _ h in
    ⊎_elim {C = Fit leaf}
    (λ (k : Contains (map (behind (Name m.name)) (leaves m.value.0)) leaf).
    let own = from_map (behind (Name m.name)) (leaves m.value.0) leaf k in
    subst Fit own.2 (m.value.1.so p.0 own.0 own.1))
    (λ (k : Contains (flat_map member_leaves (map leaves_in (map member_of ms))) leaf). members_fit ms p.1 leaf k)
    (Contains-append_cases (member_leaves (leaves_in (member_of m))) (flat_map member_leaves (map leaves_in (map member_of ms))) leaf there)

fit_level : (y : Tree-F Kept) → KeepsFit (roll-Tree (map-Tree Kept Tree tree_of y))
fit_level Tree-F.Null = one_leaf Tree-F.Null tree.Null (leaves-roll Tree-F.Null) (λ h. others_fit.0)
fit_level (Tree-F.Truth b) = one_leaf (Tree-F.Truth b) (tree.Truth b) (leaves-roll (Tree-F.Truth b)) (λ h. truth_fits b)
fit_level (Tree-F.Number n) = one_leaf (Tree-F.Number n) (tree.Number n) (leaves-roll (Tree-F.Number n)) (number_fits n)
fit_level (Tree-F.Text s) = one_leaf (Tree-F.Text s) (tree.Text s) (leaves-roll (Tree-F.Text s)) (λ h. text_fits s)
fit_level (Tree-F.List []) = one_leaf (Tree-F.List []) (tree.List []) (leaves-roll (Tree-F.List [])) (λ h. others_fit.1)
fit_level (Tree-F.Object []) = one_leaf (Tree-F.Object []) (tree.Object []) (leaves-roll (Tree-F.Object [])) (λ h. others_fit.2)
fit_level (Tree-F.List (e ∷ es)) =
    record {
      so = λ h leaf there.
          items_fit (e ∷ es) (sym (fits-roll (Tree-F.List (map tree_of (e ∷ es)))) ∙ h) leaf
          (subst (λ ls. Contains ls leaf) (leaves-roll (Tree-F.List (map tree_of (e ∷ es)))) there);
    }
fit_level (Tree-F.Object (m ∷ ms)) =
    record {
      so = λ h leaf there.
          members_fit (m ∷ ms) (sym (fits-roll (Tree-F.Object (map member_of (m ∷ ms)))) ∙ h) leaf
          (subst (λ ls. Contains ls leaf) (leaves-roll (Tree-F.Object (map member_of (m ∷ ms)))) there);
    }

keeps_fit : (t : Tree) → KeepsFit t
keeps_fit = ind-Tree KeepsFit (λ x y is. subst (λ z. KeepsFit (roll-Tree z)) is (fit_level y))

pub leaves_fit : (t : Tree) → NumbersFit t → LeavesFit t
leaves_fit t = (keeps_fit t).so
