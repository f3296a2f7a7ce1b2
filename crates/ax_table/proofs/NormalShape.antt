-- A normal tree nests little and has no numbers, so that its text is that of no other tree.
use Rattle.std.proofs.Common.{◌≡◌, ◌+◌, ◌≤◌, ℕ, List, [], ◌∷◌, map, Bool, true, false, ◌&&◌, refl, ap₂, ◌∙◌, arith, rules}
use Rattle.std.specs.Prelude.{codes}
use Rattle.std.specs.List.{list_all}
use Rattle.ax_mean.specs.declared.query.Order.{Order}
use Rattle.ax_tree.specs.Nesting.{greatest, nesting}
use Rattle.ax_tree.specs.WellFormed.{numbers_fit}
use Rattle.ax_tree.specs.declared.members.Member.{Member}
use Rattle.ax_tree.specs.declared.tree.Tree as tree
use Rattle.ax_tree.specs.declared.tree.Tree.{Tree}
use Rattle.ax_tree.specs.declared.tree.Tree.TheVariants as trees
use Rattle.ax_policy.specs.declared.policy.Policy.{Policy}
use Rattle.ax_policy.specs.Composites.{composite_tree, order_word, part_tree}
use Rattle.ax_policy.specs.Normal.{mode_word, normal_tree, path_tree, path_trees, rules_with}
use Rattle.ax_policy.specs.Paths.{steps_text}

-- it nests so deep at most, and its numbers fit
record IsPlain (deepest : ℕ) (t : Tree) : Type 0 where
  nests : nesting t ≤ deepest
  fits : numbers_fit t ≡ true

abbrev deep : Member Tree → Member ℕ
deep m = record { name = m.name; value = nesting m.value }

abbrev fitting : Member Tree → Member Bool
fitting m = record { name = m.name; value = numbers_fit m.value }

nests_truth : (b : Bool) → nesting (trees.Truth b) ≡ 0
nests_truth b = search (rules, tree.the_lemmas)

nests_text : (text : List ℕ) → nesting (trees.Text text) ≡ 0
nests_text text = search (rules, tree.the_lemmas)

nests_list : (items : List Tree) → nesting (trees.List items) ≡ greatest (map nesting items) + 1
nests_list items = search (rules, tree.the_lemmas)

nests_object : (members : List (Member Tree)) → nesting (trees.Object members) ≡ greatest (map (λ m. m.value) (map deep members)) + 1
nests_object members = search (rules, tree.the_lemmas)

fits_truth : (b : Bool) → numbers_fit (trees.Truth b) ≡ true
fits_truth b = search (rules, tree.the_lemmas)

fits_text : (text : List ℕ) → numbers_fit (trees.Text text) ≡ true
fits_text text = search (rules, tree.the_lemmas)

fits_list : (items : List Tree) → numbers_fit (trees.List items) ≡ list_all (λ item. item) (map numbers_fit items)
fits_list items = search (rules, tree.the_lemmas)

fits_object : (members : List (Member Tree)) → numbers_fit (trees.Object members) ≡ list_all (λ m. m.value) (map fitting members)
fits_object members = search (rules, tree.the_lemmas)

-- ---- trees of trees

plain_text : (deepest : ℕ) (text : List ℕ) → IsPlain deepest (trees.Text text)
plain_text deepest text = record { nests = omega (arith, nests_text text); fits = fits_text text }

plain_truth : (deepest : ℕ) (b : Bool) → IsPlain deepest (trees.Truth b)
plain_truth deepest b = record { nests = omega (arith, nests_truth b); fits = fits_truth b }

abbrev ArePlain : ℕ → List (Member Tree) → Type 0
ArePlain deepest [] = Unit {0}
ArePlain deepest (m ∷ ms) = IsPlain deepest m.value × ArePlain deepest ms

greatest_members : (deepest : ℕ) (members : List (Member Tree)) → ArePlain deepest members
    → greatest (map (λ m. m.value) (map deep members)) ≤ deepest
greatest_members deepest [] plain = omega arith
greatest_members deepest (m ∷ ms) plain = omega (arith, plain.0.nests, greatest_members deepest ms plain.1)

members_fit : (deepest : ℕ) (members : List (Member Tree)) → ArePlain deepest members
    → list_all (λ m. m.value) (map fitting members) ≡ true
members_fit deepest [] plain = refl
members_fit deepest (m ∷ ms) plain = ap₂ (λ a b. a && b) plain.0.fits (members_fit deepest ms plain.1)

plain_object : (deepest : ℕ) (members : List (Member Tree)) → ArePlain deepest members → IsPlain (deepest + 1) (trees.Object members)
plain_object deepest members plain = record {
  nests = omega (arith, nests_object members, greatest_members deepest members plain);
  fits = fits_object members ∙ members_fit deepest members plain;
}

greatest_items : {X : Type 0} (deepest : ℕ) (f : X → Tree) (xs : List X) → ((x : X) → IsPlain deepest (f x))
    → greatest (map nesting (map f xs)) ≤ deepest
greatest_items deepest f [] plain = omega arith
greatest_items deepest f (x ∷ xs) plain = omega (arith, (plain x).nests, greatest_items deepest f xs plain)

items_fit : {X : Type 0} (deepest : ℕ) (f : X → Tree) (xs : List X) → ((x : X) → IsPlain deepest (f x))
    → list_all (λ item. item) (map numbers_fit (map f xs)) ≡ true
items_fit deepest f [] plain = refl
items_fit deepest f (x ∷ xs) plain = ap₂ (λ a b. a && b) (plain x).fits (items_fit deepest f xs plain)

plain_list : {X : Type 0} (deepest : ℕ) (f : X → Tree) (xs : List X) → ((x : X) → IsPlain deepest (f x))
    → IsPlain (deepest + 1) (trees.List (map f xs))
plain_list deepest f xs plain = record {
  nests = omega (arith, nests_list (map f xs), greatest_items deepest f xs plain);
  fits = fits_list (map f xs) ∙ items_fit deepest f xs plain;
}

-- ---- the normal tree

plain_path : (rule : Member Bool) → IsPlain 1 (path_tree rule)
plain_path rule = plain_object 0 (record { name = codes "path"; value = trees.Text rule.name } ∷ []) (plain_text 0 rule.name, tt)

plain_part : (part : Order) → IsPlain 1 (part_tree part)
plain_part part =
    plain_object 0
    (record { name = codes "order"; value = trees.Text (order_word part.down) }
    ∷ record { name = codes "path"; value = trees.Text (steps_text part.path) } ∷ [])
    (plain_text 0 (order_word part.down), (plain_text 0 (steps_text part.path), tt))

plain_composite : (composite : List Order) → IsPlain 2 (composite_tree composite)
plain_composite composite = plain_list 1 part_tree composite plain_part

deeper : (t : Tree) → IsPlain 2 t → IsPlain 3 t
deeper t plain = record { nests = omega (arith, plain.nests); fits = plain.fits }

plain_normal : (policy : Policy) → IsPlain 4 (normal_tree policy)
plain_normal policy =
    plain_object 3
    (record { name = codes "automatic"; value = trees.Truth policy.automatic }
    ∷ record { name = codes "compositeIndexes"; value = trees.List (map composite_tree policy.composites) }
    ∷ record { name = codes "excludedPaths"; value = trees.List (path_trees false policy.rules) }
    ∷ record { name = codes "includedPaths"; value = trees.List (path_trees true policy.rules) }
    ∷ record { name = codes "indexingMode"; value = trees.Text (mode_word policy.mode) } ∷ []) (
      plain_truth 3 policy.automatic,
      (
        plain_list 2 composite_tree policy.composites plain_composite,
        (
          deeper _ (plain_list 1 path_tree (rules_with false policy.rules) plain_path),
          (deeper _ (plain_list 1 path_tree (rules_with true policy.rules) plain_path), (plain_text 3 (mode_word policy.mode), tt)),
        ),
      ),
    )

pub normal_nests : (policy : Policy) → nesting (normal_tree policy) ≤ 127
normal_nests policy = omega (arith, (plain_normal policy).nests)

pub normal_fits : (policy : Policy) → numbers_fit (normal_tree policy) ≡ true
normal_fits policy = (plain_normal policy).fits
