-- The nesting of a tree, one level at a time.
use Rattle.std.proofs.Common.{rules, Bool, ◌≡◌, ◌∙◌, ap, ℕ, ℤ, ◌+◌, List, [], ◌∷◌, map, refl}
use Rattle.ax_tree.specs.Nesting.{nesting, greatest}
use Rattle.ax_tree.specs.declared.members.Member.{Member}
use Rattle.ax_tree.specs.declared.tree.Tree as tree

-- a member, whose value is seen as its nesting
abbrev nested : Member tree.Tree → Member ℕ
nested m = record { name = m.name; value = nesting m.value }

-- how deep the members' values nest
abbrev pub deepest : List (Member tree.Tree) → ℕ
deepest members = greatest (map (λ m. nesting m.value) members)

pub nesting-Null : nesting tree.Null ≡ 0
nesting-Null = search (rules, tree.the_lemmas)

pub nesting-Truth : (b : Bool) → nesting (tree.Truth b) ≡ 0
nesting-Truth b = search (rules, tree.the_lemmas)

pub nesting-Number : (z : ℤ) → nesting (tree.Number z) ≡ 0
nesting-Number z = search (rules, tree.the_lemmas)

pub nesting-Text : (s : List ℕ) → nesting (tree.Text s) ≡ 0
nesting-Text s = search (rules, tree.the_lemmas)

pub nesting-List : (ts : List tree.Tree) → nesting (tree.List ts) ≡ greatest (map nesting ts) + 1
nesting-List ts = search (rules, tree.the_lemmas)

nesting-nested : (l : List (Member tree.Tree))
    → nesting (tree.Object l) ≡ greatest (map (λ m. m.value) (map nested l)) + 1
nesting-nested l = search (rules, tree.the_lemmas)

values-nested : (l : List (Member tree.Tree))
    → map (λ m. m.value) (map nested l) ≡ map (λ m. nesting m.value) l
values-nested [] = refl
values-nested (m ∷ ms) = ap (λ ns. nesting m.value ∷ ns) (values-nested ms)

pub nesting_object : (l : List (Member tree.Tree)) → nesting (tree.Object l) ≡ deepest l + 1
nesting_object l = nesting-nested l ∙ ap (λ ns. greatest ns + 1) (values-nested l)
