-- A normal tree has no numbers, so one text is of one normal tree, and of one policy that was read.
use Rattle.std.proofs.Common.{◌≡◌, ℕ, List, [], ◌∷◌, map, Bool, true, false, ◌&&◌, Option, Some, refl, sym, ap, ap₂, ◌∙◌, rules}
use Rattle.std.specs.Prelude.{codes}
use Rattle.std.specs.List.{list_all}
use Rattle.ax_mean.specs.declared.query.Order.{Order}
use Rattle.ax_tree.specs.WellFormed.{numbers_fit}
use Rattle.ax_tree.specs.declared.members.Member.{Member}
use Rattle.ax_tree.specs.declared.tree.Tree as tree
use Rattle.ax_tree.specs.declared.tree.Tree.{Tree}
use Rattle.ax_tree.specs.declared.tree.Tree.TheVariants as trees
use Rattle.ax_tree.proofs.OneText.{one_text}
use Rattle.ax_policy.specs.declared.policy.Policy.{Policy}
use Rattle.ax_policy.specs.Composites.{composite_tree, order_word, part_tree}
use Rattle.ax_policy.specs.Normal.{mode_word, normal_text, normal_tree, path_tree, path_trees, rules_with}
use Rattle.ax_policy.specs.Paths.{steps_text}
use Rattle.ax_policy.specs.Policies.{policy_of}
use Rattle.ax_policy.proofs.PolicyAgain.{read_again}

abbrev Fits : Tree → Type 0
Fits t = numbers_fit t ≡ true

abbrev fitting : Member Tree → Member Bool
fitting m = record { name = m.name; value = numbers_fit m.value }

fits_truth : (b : Bool) → Fits (trees.Truth b)
fits_truth b = search (rules, tree.the_lemmas)

fits_text : (text : List ℕ) → Fits (trees.Text text)
fits_text text = search (rules, tree.the_lemmas)

list_is : (items : List Tree)
    → numbers_fit (trees.List items) ≡ list_all (λ item. item) (map numbers_fit items)
list_is items = search (rules, tree.the_lemmas)

object_is : (members : List (Member Tree))
    → numbers_fit (trees.Object members) ≡ list_all (λ m. m.value) (map fitting members)
object_is members = search (rules, tree.the_lemmas)

all_fit : {X : Type 0} (f : X → Tree) (xs : List X) → ((x : X) → Fits (f x))
    → list_all (λ item. item) (map numbers_fit (map f xs)) ≡ true
all_fit f [] fit = refl
all_fit f (x ∷ xs) fit = ap₂ (λ a b. a && b) (fit x) (all_fit f xs fit)

list_fits : {X : Type 0} (f : X → Tree) (xs : List X) → ((x : X) → Fits (f x))
    → Fits (trees.List (map f xs))
list_fits f xs fit = list_is (map f xs) ∙ all_fit f xs fit

path_fits : (rule : Member Bool) → Fits (path_tree rule)
path_fits rule =
    object_is (record { name = codes "path"; value = trees.Text rule.name } ∷ [])
    ∙ ap (λ b. b && true) (fits_text rule.name)

part_fits : (part : Order) → Fits (part_tree part)
part_fits part =
    object_is (record { name = codes "order"; value = trees.Text (order_word part.down) }
    ∷ record { name = codes "path"; value = trees.Text (steps_text part.path) } ∷ [])
    ∙ ap₂ (λ a b. a && (b && true)) (fits_text (order_word part.down)) (fits_text (steps_text part.path))

composite_fits : (composite : List Order) → Fits (composite_tree composite)
composite_fits composite = list_fits part_tree composite part_fits

and_true : (a b : Bool) → a ≡ true → b ≡ true → (a && b) ≡ true
and_true a b e f = ap₂ (λ x y. x && y) e f

normal_fits : (policy : Policy) → Fits (normal_tree policy)
normal_fits policy =
    object_is
    (record { name = codes "automatic"; value = trees.Truth policy.automatic }
    ∷ record { name = codes "compositeIndexes"; value = trees.List (map composite_tree policy.composites) }
    ∷ record { name = codes "excludedPaths"; value = trees.List (path_trees false policy.rules) }
    ∷ record { name = codes "includedPaths"; value = trees.List (path_trees true policy.rules) }
    ∷ record { name = codes "indexingMode"; value = trees.Text (mode_word policy.mode) } ∷ [])
    ∙ and_true _ _ (fits_truth policy.automatic)
    (and_true _ _ (list_fits composite_tree policy.composites composite_fits)
    (and_true _ _ (list_fits path_tree (rules_with false policy.rules) path_fits)
    (and_true _ _ (list_fits path_tree (rules_with true policy.rules) path_fits)
    (and_true _ _ (fits_text (mode_word policy.mode)) refl))))

abbrev some_policy : Policy → Option Policy
some_policy policy = Some policy

same_policy : (a b : Policy) → some_policy a ≡ some_policy b → a ≡ b
same_policy a b e = cc

pub one_policy : (one other : Tree) (a b : Policy) → policy_of one ≡ some_policy a
    → policy_of other ≡ some_policy b → normal_text a ≡ normal_text b → a ≡ b
one_policy one other a b e f text =
    same_policy a b
    (sym (read_again one a e)
    ∙ ap policy_of (one_text (normal_tree a) (normal_tree b) (normal_fits a) (normal_fits b) text)
    ∙ read_again other b f)
