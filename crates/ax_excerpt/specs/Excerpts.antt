-- What an excerpt leaves of a tree, and which steps lead to the same value in that as in the tree.
use Rattle.std.specs.Prelude.{List, [], ◌∷◌, find, ℕ, Bool, true, false, Option, Some, None, option_map, map}
use Rattle.std.specs.Str.{bytes_eq}
use Rattle.ax_tree.specs.Document.{value_of}
use Rattle.ax_tree.specs.declared.members.Member.{Member}
use Rattle.ax_tree.specs.declared.tree.Tree as tree
use Rattle.ax_tree.specs.declared.tree.Tree.{Tree, out-Tree}
use Rattle.ax_tree.specs.declared.tree.Tree.TheOpen.{Tree-F}
use Rattle.ax_mean.specs.declared.expr.QueryStep.{QueryStep}
use Rattle.ax_mean.specs.declared.expr.QueryStep.TheVariants as step
use Rattle.ax_mean.specs.declared.query.Step.{Step}
use Rattle.ax_mean.specs.declared.query.Step.TheVariants.{Name, Item}
use Rattle.ax_excerpt.specs.declared.excerpt.Excerpt.{Excerpt, fold-Excerpt}
use Rattle.ax_excerpt.specs.declared.excerpt.Excerpt.TheOpen.{Excerpt-F}

-- what stands under a name, the first of that name
abbrev pub under : {X : Type 0} → List ℕ → List (Member X) → Option X
under {X} name members =
    option_map (λ (m : Member X). m.value) (find (λ (m : Member X). bytes_eq m.name name) members)

abbrev pub part_named : List ℕ → List (Member Excerpt) → Option Excerpt
part_named name parts = option_map (λ m. m.value) (find (λ m. bytes_eq m.name name) parts)

-- a member with what is left of its value, where there is one, before others
abbrev pub with_part : Member (Tree → Tree) → Option Tree → List (Member Tree) → List (Member Tree)
with_part part None others = others
with_part part (Some value) others =
    record { name = part.name; value = part.value value } ∷ others

-- of the members those of these names, each with what is left of its value
abbrev pub chosen : List (Member (Tree → Tree)) → List (Member Tree) → List (Member Tree)
chosen [] members = []
chosen (part ∷ parts) members =
    with_part part (value_of part.name members) (chosen parts members)

abbrev pub part_level : List (Member (Tree → Tree)) → Tree → Tree-F Tree → Tree
part_level parts whole (Tree-F.Object members) = tree.Object (chosen parts members)
part_level parts whole Tree-F.Null = whole
part_level parts whole (Tree-F.Truth value) = whole
part_level parts whole (Tree-F.Number value) = whole
part_level parts whole (Tree-F.Text value) = whole
part_level parts whole (Tree-F.List items) = whole

-- one level of an excerpt, whose children are seen as what they leave of a tree
abbrev pub excerpt_level : Excerpt-F (Tree → Tree) → Tree → Tree
excerpt_level Excerpt-F.Whole whole = whole
excerpt_level (Excerpt-F.Part parts) whole = part_level parts whole (out-Tree whole)

abbrev pub excerpt_of : Excerpt → Tree → Tree
excerpt_of = fold-Excerpt (Tree → Tree) excerpt_level

-- what is left of documents, each a number and a tree
abbrev pub excerpts : Excerpt → List (ℕ × Tree) → List (ℕ × Tree)
excerpts excerpt = map (λ entry. (entry.0, excerpt_of excerpt entry.1))

-- the steps that an excerpt keeps: they end in a value of which all is there
abbrev pub kept_in : Option (List QueryStep → Bool) → List QueryStep → Bool
kept_in None steps = false
kept_in (Some keeps) steps = keeps steps

abbrev pub keeps_level : Excerpt-F (List QueryStep → Bool) → List QueryStep → Bool
keeps_level Excerpt-F.Whole steps = true
keeps_level (Excerpt-F.Part parts) [] = false
keeps_level (Excerpt-F.Part parts) (step.Member name ∷ steps) = kept_in (under name parts) steps
keeps_level (Excerpt-F.Part parts) (step.Position at ∷ steps) = true

abbrev pub keeps : Excerpt → List QueryStep → Bool
keeps = fold-Excerpt (List QueryStep → Bool) keeps_level

-- the names of a path before its first step to any element, as steps
abbrev pub names_before : List Step → List QueryStep
names_before [] = []
names_before (Name name ∷ path) = step.Member name ∷ names_before path
names_before (Item ∷ path) = []

abbrev pub keeps_path : Excerpt → List Step → Bool
keeps_path excerpt path = keeps excerpt (names_before path)
