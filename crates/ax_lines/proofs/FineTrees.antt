-- What a tree has that is well formed and nests no deeper than so much: members and items that are
-- well formed and nest less deep, and texts in UTF-8.
use Rattle.std.proofs.Common.{◌≡◌, ◌≤◌, ◌+◌, ℕ, suc, List, [], ◌∷◌, map, Bool, true, false, ◌&&◌}
use Rattle.std.proofs.Common.{Option, Some, None, option_and_then, refl, sym, ◌∙◌}
use Rattle.std.proofs.Common.{subst, true≢false, arith}
use Rattle.std.specs.List.{list_all, AllByRecursion}
use Rattle.std.specs.Option.{IfSome, option_map}
use Rattle.std.specs.Str.{is_utf8, bytes_eq}
use Rattle.ax_tree.specs.Document.{value_of, member, member_level, text_value}
use Rattle.ax_tree.specs.Document.{text_value_level, text_member}
use Rattle.ax_tree.specs.Names.{names}
use Rattle.ax_tree.specs.Nesting.{nesting, greatest}
use Rattle.ax_tree.specs.Rising.{is_rising}
use Rattle.ax_tree.specs.WellFormed.{is_well_formed, IsWellFormed}
use Rattle.ax_tree.specs.declared.members.Member.{Member}
use Rattle.ax_tree.specs.declared.tree.Tree as tree
use Rattle.ax_tree.specs.declared.tree.Tree.{out-Tree}
use Rattle.ax_tree.specs.declared.tree.Tree.TheOpen.{Tree-F}
use Rattle.ax_tree.specs.declared.tree.Tree.TheViews.{roll-Tree, roll-out-Tree}
use Rattle.ax_tree.specs.declared.tree.Tree.TheVariants.{rolls-Text, rolls-List, rolls-Object}
use Rattle.ax_text.proofs.Formed.{formed-Text, formed-List, formed-Object, is_good_member}
use Rattle.ax_text.proofs.Levels.{deepest, nesting-List, nesting_object}
use Rattle.ax_lines.specs.Bodies.{list_value, list_value_level}

both_true : (a b : Bool) → (a && b) ≡ true → (a ≡ true) × (b ≡ true)
both_true true b e = (refl, e)
both_true false b e = absurd (true≢false (sym e))

-- what holds of each value that is there, where the second is made of the first
pub and_then_holds : {A B : Type 0} (P : A → Type 0) (Q : B → Type 0) (f : A → Option B)
    (o : Option A)
    → IfSome o P → ((a : A) → P a → IfSome (f a) Q) → IfSome (option_and_then f o) Q
and_then_holds P Q f None holds step = tt
and_then_holds P Q f (Some a) holds step = step a holds

pub map_holds : {A B : Type 0} (P : A → Type 0) (Q : B → Type 0) (f : A → B) (o : Option A)
    → IfSome o P → ((a : A) → P a → Q (f a)) → IfSome (option_map f o) Q
map_holds P Q f None holds step = tt
map_holds P Q f (Some a) holds step = step a holds

-- well formed, and nests no deeper than that
pub record IsFine (most : ℕ) (t : tree.Tree) : Type 0 where
  pub formed : IsWellFormed t
  pub shallow : nesting t ≤ most

-- ---- members

fine_value : (most : ℕ) (name : List ℕ) (ms : List (Member tree.Tree))
    → list_all is_good_member ms ≡ true → deepest ms ≤ most
    → IfSome (value_of name ms) (IsFine most)
fine_value most name [] good low = tt
fine_value most name (m ∷ ms) good low =
    let parts = both_true (is_good_member m) (list_all is_good_member ms) good in
    let own = both_true (is_utf8 m.name) (is_well_formed m.value) parts.0 in
    let here : nesting m.value ≤ most = omega (arith, low) in
    let there : deepest ms ≤ most = omega (arith, low) in
    by_test (bytes_eq m.name name) refl (record { formed = own.1; shallow = here })
    (fine_value most name ms parts.1 there)
  where
    by_test : (b : Bool) → bytes_eq m.name name ≡ b → IsFine most m.value
        → IfSome (value_of name ms) (IsFine most) → IfSome (value_of name (m ∷ ms)) (IsFine most)
    by_test true is here later = rw is here
    by_test false is here later = rw is later

object_fine : (most : ℕ) (name : List ℕ) (ms : List (Member tree.Tree))
    → IsFine (suc most) (tree.Object ms) → IfSome (value_of name ms) (IsFine most)
object_fine most name ms fine =
    let good = both_true (is_rising (names ms)) (list_all is_good_member ms)
    (sym (formed-Object ms) ∙ fine.formed) in
    let low : nesting (tree.Object ms) ≤ suc most = fine.shallow in
    let is : nesting (tree.Object ms) ≡ deepest ms + 1 = nesting_object ms in
    let under : deepest ms ≤ most = omega (arith, low, is) in
    fine_value most name ms good.1 under

member_of_level : (most : ℕ) (name : List ℕ) (y : Tree-F tree.Tree)
    → IsFine (suc most) (roll-Tree y) → IfSome (member_level name y) (IsFine most)
member_of_level most name (Tree-F.Object ms) fine =
    object_fine most name ms (subst (IsFine (suc most)) (rolls-Object ms) fine)
member_of_level most name Tree-F.Null fine = tt
member_of_level most name (Tree-F.Truth b) fine = tt
member_of_level most name (Tree-F.Number z) fine = tt
member_of_level most name (Tree-F.Text s) fine = tt
member_of_level most name (Tree-F.List ts) fine = tt

pub member_fine : (most : ℕ) (name : List ℕ) (t : tree.Tree) → IsFine (suc most) t
    → IfSome (member name t) (IsFine most)
member_fine most name t fine =
    member_of_level most name (out-Tree t) (subst (IsFine (suc most)) (sym (roll-out-Tree t)) fine)

-- ---- texts

abbrev pub IsUtf8Text : List ℕ → Type 0
IsUtf8Text text = is_utf8 text ≡ true

text_of_level : (y : Tree-F tree.Tree) → IsWellFormed (roll-Tree y)
    → IfSome (text_value_level y) IsUtf8Text
text_of_level (Tree-F.Text s) formed =
    sym (formed-Text s) ∙ subst IsWellFormed (rolls-Text s) formed
text_of_level Tree-F.Null formed = tt
text_of_level (Tree-F.Truth b) formed = tt
text_of_level (Tree-F.Number z) formed = tt
text_of_level (Tree-F.List ts) formed = tt
text_of_level (Tree-F.Object ms) formed = tt

pub text_fine : (most : ℕ) (name : List ℕ) (t : tree.Tree) → IsFine (suc most) t
    → IfSome (text_member name t) IsUtf8Text
text_fine most name t fine =
    and_then_holds (IsFine most) IsUtf8Text text_value (member name t)
    (member_fine most name t fine)
    (λ v own. text_of_level (out-Tree v) (subst IsWellFormed (sym (roll-out-Tree v)) own.formed))

-- ---- items

fine_items : (most : ℕ) (ts : List tree.Tree) → list_all is_well_formed ts ≡ true
    → greatest (map nesting ts) ≤ most → AllByRecursion (IsFine most) ts
fine_items most [] good low = tt
fine_items most (t ∷ ts) good low =
    let parts = both_true (is_well_formed t) (list_all is_well_formed ts) good in
    let here : nesting t ≤ most = omega (arith, low) in
    let there : greatest (map nesting ts) ≤ most = omega (arith, low) in
    (record { formed = parts.0; shallow = here }, fine_items most ts parts.1 there)

list_fine : (most : ℕ) (ts : List tree.Tree) → IsFine (suc most) (tree.List ts)
    → AllByRecursion (IsFine most) ts
list_fine most ts fine =
    let low : nesting (tree.List ts) ≤ suc most = fine.shallow in
    let is : nesting (tree.List ts) ≡ greatest (map nesting ts) + 1 = nesting-List ts in
    let under : greatest (map nesting ts) ≤ most = omega (arith, low, is) in
    fine_items most ts (sym (formed-List ts) ∙ fine.formed) under

list_of_level : (most : ℕ) (y : Tree-F tree.Tree) → IsFine (suc most) (roll-Tree y)
    → IfSome (list_value_level y) (AllByRecursion (IsFine most))
list_of_level most (Tree-F.List ts) fine =
    list_fine most ts (subst (IsFine (suc most)) (rolls-List ts) fine)
list_of_level most Tree-F.Null fine = tt
list_of_level most (Tree-F.Truth b) fine = tt
list_of_level most (Tree-F.Number z) fine = tt
list_of_level most (Tree-F.Text s) fine = tt
list_of_level most (Tree-F.Object ms) fine = tt

pub items_fine : (most : ℕ) (t : tree.Tree) → IsFine (suc most) t
    → IfSome (list_value t) (AllByRecursion (IsFine most))
items_fine most t fine =
    list_of_level most (out-Tree t) (subst (IsFine (suc most)) (sym (roll-out-Tree t)) fine)
