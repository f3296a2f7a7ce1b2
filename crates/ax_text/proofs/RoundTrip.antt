-- A well formed tree's data is good, and is the data of that tree: so its canonical text reads
-- back.
use Rattle.std.proofs.Common.{◌≡◌, ◌≤◌, List, [], ◌∷◌, map, Bool, true, ◌&&◌, Some, option_map, refl, sym, ap, ap₂, ◌∙◌, subst, arith}
use Rattle.std.proofs.lemmas.Bool.{and_parts}
use Rattle.std.proofs.lemmas.Str.{IsUtf8-from_is_utf8}
use Rattle.std.specs.List.{list_all}
use Rattle.std.specs.Str.{is_utf8}
use Rattle.serde_json.specs.Data as serde
use Rattle.serde_json.specs.Read.{max_depth}
use Rattle.serde_json.specs.View as view
use Rattle.serde_json.specs.Written.{compact_text}
use Rattle.ax_tree.specs.declared.members.Member.{Member}
use Rattle.ax_tree.specs.declared.tree.Tree.{Tree}
use Rattle.ax_tree.specs.declared.tree.Tree.TheOpen.{Tree-F}
use Rattle.ax_tree.specs.declared.tree.Tree.TheViews.{roll-Tree}
use Rattle.ax_tree.specs.declared.tree.Tree.TheFolds.{map-Tree, fold-roll-Tree, ind-Tree}
use Rattle.ax_tree.specs.declared.tree.Tree.TheVariants.{rolls-Null, rolls-Truth, rolls-Number, rolls-Text, rolls-List, rolls-Object}
use Rattle.ax_tree.specs.CanonicalText.{canonical_text}
use Rattle.ax_tree.specs.Names.{names}
use Rattle.ax_tree.specs.Nesting.{nesting}
use Rattle.ax_tree.specs.Rising.{is_rising}
use Rattle.ax_tree.specs.SerdeData.{data_level, data_of, data_members, member_data}
use Rattle.ax_tree.specs.WellFormed.{well_formed_level, is_well_formed, IsWellFormed}
use Rattle.ax_tree.proofs.SerdeLemmas.{compact_text-data_of}
use Rattle.ax_text.specs.Reading.{reading, Stands, of_tree}
use Rattle.ax_text.specs.TreeOf.{both, named, tree_of, items_of, members_of}
use Rattle.ax_text.proofs.DataDepth.{depth_of}
use Rattle.ax_text.proofs.GoodData.{data_names, IsGood, AreGood, HasGoodMembers, utf8-text, read-text}
use Rattle.ax_text.proofs.Readings.{reading-data}
use Rattle.ax_tree.proofs.WholeNumbers.{reads_back, whole}

formed-roll : (x : Tree-F Tree)
    → is_well_formed (roll-Tree x) ≡ well_formed_level (map-Tree Tree Bool is_well_formed x)
formed-roll = fold-roll-Tree Bool well_formed_level

data-roll : (x : Tree-F Tree)
    → data_of (roll-Tree x) ≡ data_level (map-Tree Tree serde.Data data_of x)
data-roll = fold-roll-Tree serde.Data data_level

-- the data is good, and it is the data of the tree
pub record IsDataOf (d : serde.Data) (t : Tree) : Type 0 where
  pub good : IsGood d
  pub tree : tree_of d ≡ Some t

abbrev IsKept : Tree → Type 0
IsKept t = IsWellFormed t → IsDataOf (data_of t) t

abbrev Kept : Type 0
Kept = (t : Tree) × IsKept t

abbrev tree_in : Kept → Tree
tree_in e = e.0

abbrev member_in : Member Kept → Member Tree
member_in m = record { name = m.name; value = tree_in m.value }

-- a name beside whether the value is well formed
abbrev judged : Member Tree → Member Bool
judged m = record { name = m.name; value = is_well_formed m.value }

items_good : (es : List Kept) → list_all (λ item. item) (map is_well_formed (map tree_in es)) ≡ true
    → AreGood (view.items_of (map data_of (map tree_in es)))
items_good [] h = tt
items_good (e ∷ es) h =
    let p = and_parts (is_well_formed e.0) _ h in ((e.1 p.0).good, items_good es p.1)

items_kept : (es : List Kept) → list_all (λ item. item) (map is_well_formed (map tree_in es)) ≡ true
    → items_of (view.items_of (map data_of (map tree_in es))) ≡ Some (map tree_in es)
items_kept [] h = refl
items_kept (e ∷ es) h =
    let p = and_parts (is_well_formed e.0) _ h in ap₂ both (e.1 p.0).tree (items_kept es p.1)

data_names-judged : (ms : List (Member Kept))
    → data_names (data_members (map member_data (map member_in ms))) ≡ names
    (map judged (map member_in ms))
data_names-judged [] = refl
data_names-judged (m ∷ ms) = ap (λ l. m.name ∷ l) (data_names-judged ms)

members_good : (ms : List (Member Kept))
    → list_all (λ m. is_utf8 m.name && m.value) (map judged (map member_in ms)) ≡ true
    → HasGoodMembers (data_members (map member_data (map member_in ms)))
members_good [] h = tt
members_good (m ∷ ms) h =
    let p = and_parts (is_utf8 m.name && is_well_formed m.value.0) _ h in
    let q = and_parts (is_utf8 m.name) (is_well_formed m.value.0) p.0 in
    (IsUtf8-from_is_utf8 m.name q.0, (m.value.1 q.1).good, members_good ms p.1)

members_kept : (ms : List (Member Kept))
    → list_all (λ m. is_utf8 m.name && m.value) (map judged (map member_in ms)) ≡ true
    → members_of (data_members (map member_data (map member_in ms))) ≡ Some (map member_in ms)
members_kept [] h = refl
members_kept (m ∷ ms) h =
    let p = and_parts (is_utf8 m.name && is_well_formed m.value.0) _ h in
    let q = and_parts (is_utf8 m.name) (is_well_formed m.value.0) p.0 in
    ap₂ (λ t l. both (named m.name t) l) (m.value.1 q.1).tree (members_kept ms p.1)

level : (y : Tree-F Kept) → let x =
    map-Tree Kept Tree tree_in y in well_formed_level (map-Tree Tree Bool is_well_formed x) ≡ true
    → IsDataOf (data_level (map-Tree Tree serde.Data data_of x)) (roll-Tree x)
level Tree-F.Null h = record { good = tt; tree = ap Some (sym rolls-Null) }
level (Tree-F.Truth b) h = record { good = tt; tree = ap Some (sym (rolls-Truth b)) }
level (Tree-F.Number z) h =
    record {
      good = reads_back z h;
      tree = ap (option_map _) (whole z h) ∙ ap Some (sym (rolls-Number z));
    }
level (Tree-F.Text s) h =
    record { good = IsUtf8-from_is_utf8 s h; tree = ap Some (sym (rolls-Text s)) }
level (Tree-F.List es) h =
    record {
      good = items_good es h;
      tree = ap (option_map _) (items_kept es h) ∙ ap Some (sym (rolls-List (map tree_in es)));
    }
level (Tree-F.Object ms) h =
    let p = and_parts (is_rising (names (map judged (map member_in ms)))) _ h in
    record {
      good = (ap is_rising (data_names-judged ms) ∙ p.0, members_good ms p.1);
      tree = ap (option_map _) (members_kept ms p.1)
          ∙ ap Some (sym (rolls-Object (map member_in ms)));
    }

roll_kept : (y : Tree-F Kept) → IsKept (roll-Tree (map-Tree Kept Tree tree_in y))
roll_kept y =
    let x = map-Tree Kept Tree tree_in y in λ h. subst (λ d. IsDataOf d (roll-Tree x))
    (sym (data-roll x)) (level y (sym (formed-roll x) ∙ h))

pub is_kept : (t : Tree) → IsWellFormed t → IsDataOf (data_of t) t
is_kept = ind-Tree IsKept (λ x y is. subst (λ z. IsKept (roll-Tree z)) is (roll_kept y))

pub text-stands : (t : Tree) → IsWellFormed t → nesting t ≤ 127
    → reading (canonical_text t) ≡ Stands t
text-stands t h shallow =
    let is : IsDataOf (data_of t) t = is_kept t h in
    let same : nesting t ≡ serde.depth (data_of t) = depth_of (data_of t) t is.tree in
    let within : serde.depth (data_of t) ≤ max_depth = omega arith in
    ap reading (sym (compact_text-data_of t))
    ∙ reading-data (compact_text (data_of t)) (data_of t) (utf8-text (data_of t) is.good)
    (read-text (data_of t) is.good within)
    ∙ ap of_tree is.tree
