-- The normal text of an indexing policy: the canonical text of a map with its five members, in which
-- the paths stand in byte order of their texts and the composites in that of their canonical texts.
-- Two policies are the same where their normal texts are.
use Rattle.std.specs.Prelude.{ℕ, List, [], ◌∷◌, ◌++◌, map, Bool, true, false, not, codes}
use Rattle.std.specs.List.{filter}
use Rattle.ax_tree.specs.CanonicalText.{canonical_text}
use Rattle.ax_tree.specs.declared.members.Member.{Member}
use Rattle.ax_tree.specs.declared.tree.Tree.{Tree}
use Rattle.ax_tree.specs.declared.tree.Tree.TheVariants as tree
use Rattle.ax_policy.specs.declared.mode.Mode.{Mode}
use Rattle.ax_policy.specs.declared.mode.Mode.TheVariants.{Consistent, None as Off}
use Rattle.ax_policy.specs.declared.policy.Policy.{Policy}
use Rattle.ax_policy.specs.Composites.{composite_tree}

abbrev pub mode_word : Mode → List ℕ
mode_word Consistent = codes "consistent"
mode_word Off = codes "none"

abbrev pub text_tree : List ℕ → Tree
text_tree text = tree.Object (record { name = codes "path"; value = tree.Text text } ∷ [])

abbrev pub path_tree : Member Bool → Tree
path_tree rule = text_tree rule.name

abbrev pub is_flagged : Bool → Member Bool → Bool
is_flagged true rule = rule.value
is_flagged false rule = not rule.value

-- the included rules, or those that are not
abbrev pub rules_with : Bool → List (Member Bool) → List (Member Bool)
rules_with included rules = filter (is_flagged included) rules

abbrev pub path_trees : Bool → List (Member Bool) → List Tree
path_trees included rules = map path_tree (rules_with included rules)

abbrev pub normal_tree : Policy → Tree
normal_tree policy =
    tree.Object
    (record { name = codes "automatic"; value = tree.Truth policy.automatic } ∷
    record { name = codes "compositeIndexes"; value = tree.List (map composite_tree policy.composites) } ∷
    record { name = codes "excludedPaths"; value = tree.List (path_trees false policy.rules) } ∷
    record { name = codes "includedPaths"; value = tree.List (path_trees true policy.rules) } ∷
    record { name = codes "indexingMode"; value = tree.Text (mode_word policy.mode) } ∷ [])

abbrev pub normal_text : Policy → List ℕ
normal_text policy = canonical_text (normal_tree policy)

-- the members, with the value under that name behind them; no public clause cites it
abbrev pub behind : List (Member Tree) → List ℕ → Tree → List (Member Tree)
behind members name value = members ++ record { name = name; value = value } ∷ []
