-- When a tree is well formed, one level at a time.
use Rattle.std.proofs.Common.{rules, ◌≡◌, ◌∙◌, refl, ap, ap₂, ℕ, ℤ, List, [], ◌∷◌, map, Bool, true, ◌&&◌}
use Rattle.std.specs.List.{list_all}
use Rattle.std.specs.Str.{is_utf8}
use Rattle.ax_tree.specs.Names.{names, HaveRisingNames}
use Rattle.ax_tree.specs.Rising.{is_rising}
use Rattle.ax_tree.specs.declared.members.Member.{Member}
use Rattle.ax_tree.specs.declared.tree.Tree as tree
use Rattle.ax_tree.specs.WellFormed.{is_of_64_bits, is_well_formed, IsWellFormed}

-- a name beside whether the value is well formed
abbrev judged : Member tree.Tree → Member Bool
judged m = record { name = m.name; value = is_well_formed m.value }

abbrev pub is_good_member : Member tree.Tree → Bool
is_good_member m = is_utf8 m.name && is_well_formed m.value

pub formed-Null : is_well_formed tree.Null ≡ true
formed-Null = search (rules, tree.the_lemmas)

pub formed-Truth : (b : Bool) → is_well_formed (tree.Truth b) ≡ true
formed-Truth b = search (rules, tree.the_lemmas)

pub formed-Number : (z : ℤ) → is_well_formed (tree.Number z) ≡ is_of_64_bits z
formed-Number z = search (rules, tree.the_lemmas)

pub formed-Text : (s : List ℕ) → is_well_formed (tree.Text s) ≡ is_utf8 s
formed-Text s = search (rules, tree.the_lemmas)

formed-mapped : (ts : List tree.Tree)
    → is_well_formed (tree.List ts) ≡ list_all (λ item. item) (map is_well_formed ts)
formed-mapped ts = search (rules, tree.the_lemmas)

formed-judged : (ms : List (Member tree.Tree))
    → is_well_formed
    (tree.Object ms)
    ≡ (is_rising (names (map judged ms)) && list_all (λ m. is_utf8 m.name && m.value)
    (map judged ms))
formed-judged ms = search (rules, tree.the_lemmas)

all-mapped : (ts : List tree.Tree)
    → list_all (λ item. item) (map is_well_formed ts) ≡ list_all is_well_formed ts
all-mapped [] = refl
all-mapped (t ∷ ts) = ap (λ b. is_well_formed t && b) (all-mapped ts)

all-judged : (ms : List (Member tree.Tree))
    → list_all (λ m. is_utf8 m.name && m.value) (map judged ms) ≡ list_all is_good_member ms
all-judged [] = refl
all-judged (m ∷ ms) = ap (λ b. is_good_member m && b) (all-judged ms)

names-judged : (ms : List (Member tree.Tree)) → names (map judged ms) ≡ names ms
names-judged [] = refl
names-judged (m ∷ ms) = ap (λ l. m.name ∷ l) (names-judged ms)

pub formed-List : (ts : List tree.Tree) → is_well_formed (tree.List ts) ≡ list_all is_well_formed ts
formed-List ts = formed-mapped ts ∙ all-mapped ts

pub formed-Object : (ms : List (Member tree.Tree))
    → is_well_formed (tree.Object ms) ≡ (is_rising (names ms) && list_all is_good_member ms)
formed-Object ms = formed-judged ms
    ∙ ap₂ (λ a b. is_rising a && b) (names-judged ms) (all-judged ms)

pub object-formed : (ms : List (Member tree.Tree)) → HaveRisingNames ms
    → list_all is_good_member ms ≡ true → IsWellFormed (tree.Object ms)
object-formed ms rising good = formed-Object ms ∙ ap₂ (λ a b. a && b) rising good
