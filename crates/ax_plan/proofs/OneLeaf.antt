-- A well-formed document has one leaf at most at a path of names.
use Rattle.std.proofs.Common.{◌≡◌, ℕ, List, [], ◌∷◌, map, Bool, true, ◌&&◌, ⊎_elim, refl, sym, ap, ◌∙◌, subst}
use Rattle.std.proofs.lemmas.Bool.{false≢true, and_parts}
use Rattle.std.proofs.lemmas.Cmp.{nat_list_cmp_total, tied_itself}
use Rattle.std.proofs.lemmas.List.Elements.{Contains-append_cases}
use Rattle.std.specs.List.{Contains, flat_map, list_all}
use Rattle.std.specs.Ordering.{is_lt}
use Rattle.std.specs.Str.{is_utf8}
use Rattle.ax_tree.specs.Names.{names}
use Rattle.ax_tree.specs.Rising.{is_before, is_rising}
use Rattle.ax_tree.specs.WellFormed.{IsWellFormed, is_well_formed, well_formed_level}
use Rattle.ax_tree.specs.declared.members.Member.{Member}
use Rattle.ax_tree.specs.declared.tree.Tree as tree
use Rattle.ax_tree.specs.declared.tree.Tree.{Tree}
use Rattle.ax_tree.specs.declared.tree.Tree.TheOpen.{Tree-F}
use Rattle.ax_tree.specs.declared.tree.Tree.TheViews.{roll-Tree}
use Rattle.ax_tree.specs.declared.tree.Tree.TheFolds.{map-Tree, fold-roll-Tree, ind-Tree}
use Rattle.ax_text.proofs.RisingNames.{is_before_trans}
use Rattle.ax_mean.specs.declared.query.Step.{Step}
use Rattle.ax_mean.specs.declared.query.Step.TheVariants.{Name, Item}
use Rattle.ax_terms.specs.Leaves.{Leaf, alone, behind, item_leaves, leaves, leaves_in, member_leaves}
use Rattle.ax_atoms.proofs.Parts.{leaves-roll}
use Rattle.ax_terms.proofs.Sequences.{contains_first, contains_later, from_flat_map, from_map, none_in_nil, only_one}
use Rattle.ax_plan.specs.Combining.{is_by_name}
use Rattle.ax_plan.proofs.Unions.{first_or_later}

well-roll : (x : Tree-F Tree) → is_well_formed (roll-Tree x) ≡ well_formed_level (map-Tree Tree Bool is_well_formed x)
well-roll = fold-roll-Tree Bool well_formed_level

-- ---- names

tail_rises : (x : List ℕ) (ys : List (List ℕ)) → is_rising (x ∷ ys) ≡ true → is_rising ys ≡ true
tail_rises x [] h = refl
tail_rises x (y ∷ ys) h = (and_parts (is_before x y) (is_rising (y ∷ ys)) h).1

before_later : (x : List ℕ) (ys : List (List ℕ)) (y : List ℕ) → is_rising (x ∷ ys) ≡ true → Contains ys y
    → is_before x y ≡ true
before_later x [] y h there = absurd (none_in_nil y there)
before_later x (z ∷ ys) y h there =
    let p = and_parts (is_before x z) (is_rising (z ∷ ys)) h in
    ⊎_elim {C = is_before x y ≡ true}
    (λ (is : z ≡ y). subst (λ w. is_before x w ≡ true) is p.0)
    (λ (k : Contains ys y). is_before_trans x z y p.0 (before_later z ys y p.1 k))
    (first_or_later z y ys there)

not_itself : (x y : List ℕ) → is_before x y ≡ true → x ≡ y → ⊥
not_itself x y h e =
    false≢true
    (sym (ap is_lt (tied_itself nat_list_cmp_total y)) ∙ ap (λ w. is_before w y) (sym e) ∙ h)

abbrev name_of : Step → List ℕ
name_of (Name name) = name
name_of Item = []

abbrev first_name : List Step → List ℕ
first_name [] = []
first_name (step ∷ steps) = name_of step

abbrev behind_first : List Step → List Step
behind_first [] = []
behind_first (step ∷ steps) = steps

-- ---- one level

record HasOne (t : Tree) : Type 0 where
  so : IsWellFormed t → (a b : Leaf) → Contains (leaves t) a → Contains (leaves t) b
      → a.path ≡ b.path → list_all is_by_name a.path ≡ true → a ≡ b

abbrev Kept : Type 0
Kept = (t : Tree) × HasOne t

abbrev tree_of : Kept → Tree
tree_of e = e.0

abbrev member_of : Member Kept → Member Tree
member_of m = record { name = m.name; value = tree_of m.value }

one_alone : (x : Tree-F Tree) (t : Tree) → leaves (roll-Tree x) ≡ alone t → HasOne (roll-Tree x)
one_alone x t is =
    record {
      so = λ h a b in_a in_b e n.
          let own : Leaf = record { path = []; tree = t } in
          sym (only_one own a (subst (λ ls. Contains ls a) is in_a)) ∙ only_one own b (subst (λ ls. Contains ls b) is in_b);
    }

-- to a leaf of an element of a list there leads no path of names
none_of_items : {A : Type 0} (lists : List (List Leaf)) (a : Leaf) → Contains (flat_map item_leaves lists) a
    → list_all is_by_name a.path ≡ true → A
none_of_items lists a there n =
    let one = from_flat_map item_leaves lists a there in
    let own = from_map (behind Item) one.0 a one.2 in
    absurd (false≢true (ap (λ (l : Leaf). list_all is_by_name l.path) own.2 ∙ n))

abbrev leaves_of : List (Member Kept) → List Leaf
leaves_of ms = flat_map member_leaves (map leaves_in (map member_of ms))

-- the name of a later member begins the paths of its leaves
later_name : (ms : List (Member Kept)) (a : Leaf) → Contains (leaves_of ms) a
    → Contains (names (map member_of ms)) (first_name a.path)
later_name [] a there = absurd (none_in_nil a there)
later_name (m ∷ ms) a there =
    ⊎_elim {C = Contains (names (map member_of (m ∷ ms))) (first_name a.path)}
    (λ (k : Contains (member_leaves (leaves_in (member_of m))) a).
    let own = from_map (behind (Name m.name)) (leaves m.value.0) a k in
    subst (λ (l : Leaf). Contains (names (map member_of (m ∷ ms))) (first_name l.path)) own.2
    (contains_first m.name (names (map member_of ms))))
    (λ (k : Contains (leaves_of ms) a). contains_later m.name (names (map member_of ms)) (first_name a.path) (later_name ms a k))
    (Contains-append_cases (member_leaves (leaves_in (member_of m))) (leaves_of ms) a there)

abbrev as_test : Member Bool → Bool
as_test m = is_utf8 m.name && m.value

abbrev well_member : Member Tree → Member Bool
well_member m = record { name = m.name; value = is_well_formed m.value }

module _ (m : Member Kept) (ms : List (Member Kept)) (rise : is_rising (m.name ∷ names (map member_of ms)) ≡ true) where
  apart : (a b : Leaf) → Contains (member_leaves (leaves_in (member_of m))) a → Contains (leaves_of ms) b
      → a.path ≡ b.path → ⊥
  apart a b here there e =
      let own = from_map (behind (Name m.name)) (leaves m.value.0) a here in
      not_itself m.name (first_name b.path)
      (before_later m.name (names (map member_of ms)) (first_name b.path) rise (later_name ms b there))
      (ap (λ (l : Leaf). first_name l.path) own.2 ∙ ap first_name e)

  both_here : IsWellFormed m.value.0 → (a b : Leaf) → Contains (member_leaves (leaves_in (member_of m))) a
      → Contains (member_leaves (leaves_in (member_of m))) b → a.path ≡ b.path → list_all is_by_name a.path ≡ true → a ≡ b
  both_here well a b in_a in_b e n =
      let x = from_map (behind (Name m.name)) (leaves m.value.0) a in_a in
      let y = from_map (behind (Name m.name)) (leaves m.value.0) b in_b in
      let paths : x.0.path ≡ y.0.path =
      ap (λ (l : Leaf). behind_first l.path) x.2 ∙ ap behind_first e ∙ sym (ap (λ (l : Leaf). behind_first l.path) y.2) in
      let named : list_all is_by_name x.0.path ≡ true = ap (λ (l : Leaf). list_all is_by_name l.path) x.2 ∙ n in
      sym x.2 ∙ ap (behind (Name m.name)) (m.value.1.so well x.0 y.0 x.1 y.1 paths named) ∙ y.2

one_of_members : (ms : List (Member Kept)) → is_rising (names (map member_of ms)) ≡ true
    → list_all as_test (map well_member (map member_of ms)) ≡ true
    → (a b : Leaf) → Contains (leaves_of ms) a → Contains (leaves_of ms) b → a.path ≡ b.path
    → list_all is_by_name a.path ≡ true → a ≡ b
one_of_members [] rise well a b in_a in_b e n = absurd (none_in_nil a in_a)
one_of_members (m ∷ ms) rise well a b in_a in_b e n =
    let p = and_parts (as_test (well_member (member_of m))) (list_all as_test (map well_member (map member_of ms))) well in
    let own : IsWellFormed m.value.0 = (and_parts (is_utf8 m.name) (is_well_formed m.value.0) p.0).1 in
    let more : is_rising (names (map member_of ms)) ≡ true = tail_rises m.name (names (map member_of ms)) rise in
    ⊎_elim {C = a ≡ b}
    (λ (ka : Contains (member_leaves (leaves_in (member_of m))) a).
    ⊎_elim {C = a ≡ b}
    (λ (kb : Contains (member_leaves (leaves_in (member_of m))) b). both_here m ms rise own a b ka kb e n)
    (λ (kb : Contains (leaves_of ms) b). absurd (apart m ms rise a b ka kb e))
    (Contains-append_cases (member_leaves (leaves_in (member_of m))) (leaves_of ms) b in_b))
    (λ (ka : Contains (leaves_of ms) a).
    ⊎_elim {C = a ≡ b}
    (λ (kb : Contains (member_leaves (leaves_in (member_of m))) b). absurd (apart m ms rise b a kb ka (sym e)))
    (λ (kb : Contains (leaves_of ms) b). one_of_members ms more p.1 a b ka kb e n)
    (Contains-append_cases (member_leaves (leaves_in (member_of m))) (leaves_of ms) b in_b))
    (Contains-append_cases (member_leaves (leaves_in (member_of m))) (leaves_of ms) a in_a)

one_level : (y : Tree-F Kept) → HasOne (roll-Tree (map-Tree Kept Tree tree_of y))
one_level Tree-F.Null = one_alone Tree-F.Null tree.Null (leaves-roll Tree-F.Null)
one_level (Tree-F.Truth b) = one_alone (Tree-F.Truth b) (tree.Truth b) (leaves-roll (Tree-F.Truth b))
one_level (Tree-F.Number n) = one_alone (Tree-F.Number n) (tree.Number n) (leaves-roll (Tree-F.Number n))
one_level (Tree-F.Text s) = one_alone (Tree-F.Text s) (tree.Text s) (leaves-roll (Tree-F.Text s))
one_level (Tree-F.List []) = one_alone (Tree-F.List []) (tree.List []) (leaves-roll (Tree-F.List []))
one_level (Tree-F.Object []) = one_alone (Tree-F.Object []) (tree.Object []) (leaves-roll (Tree-F.Object []))
one_level (Tree-F.List (e ∷ es)) =
    record {
      so = λ h a b in_a in_b same n.
          none_of_items (map leaves (map tree_of (e ∷ es))) a
          (subst (λ ls. Contains ls a) (leaves-roll (Tree-F.List (map tree_of (e ∷ es)))) in_a) n;
    }
one_level (Tree-F.Object (m ∷ ms)) =
    record {
      so = λ h a b in_a in_b same n.
          let all : List (Member Tree) = map member_of (m ∷ ms) in
          let p = and_parts (is_rising (names (map well_member all))) (list_all as_test (map well_member all))
          (sym (well-roll (Tree-F.Object all)) ∙ h) in
          one_of_members (m ∷ ms) (ap is_rising (names_kept all) ∙ p.0) p.1 a b
          (subst (λ ls. Contains ls a) (leaves-roll (Tree-F.Object all)) in_a)
          (subst (λ ls. Contains ls b) (leaves-roll (Tree-F.Object all)) in_b) same n;
    }
  where
    names_kept : (ms : List (Member Tree)) → names ms ≡ names (map well_member ms)
    names_kept [] = refl
    names_kept (m ∷ ms) = ap (λ (ns : List (List ℕ)). m.name ∷ ns) (names_kept ms)

has_one : (t : Tree) → HasOne t
has_one = ind-Tree HasOne (λ x y is. subst (λ z. HasOne (roll-Tree z)) is (one_level y))

pub one_leaf : (given : Tree) → IsWellFormed given → (a b : Leaf) → Contains (leaves given) a → Contains (leaves given) b
    → a.path ≡ b.path → list_all is_by_name a.path ≡ true → a ≡ b
one_leaf given = (has_one given).so
