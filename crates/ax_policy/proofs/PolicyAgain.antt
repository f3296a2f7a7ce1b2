-- A policy that was read is read again from its normal tree, and so two with one normal text are equal.
use Rattle.std.proofs.Common.{◌≡◌, List, [], ◌∷◌, length, map, Bool, true, false, cond, ◌&&◌, Option, Some, None, refl, ap, ◌∙◌, subst}
use Rattle.std.specs.Prelude.{IfSome, option_and_then, codes, nat_le}
use Rattle.ax_mean.specs.declared.query.Order.{Order}
use Rattle.ax_tree.specs.Document.{member, member_level}
use Rattle.ax_tree.specs.declared.members.Member.{Member}
use Rattle.ax_tree.specs.declared.tree.Tree as tree
use Rattle.ax_tree.specs.declared.tree.Tree.{Tree}
use Rattle.ax_tree.specs.declared.tree.Tree.TheVariants as trees
use Rattle.ax_policy.specs.declared.mode.Mode.{Mode}
use Rattle.ax_policy.specs.declared.mode.Mode.TheVariants.{Consistent, None as Off}
use Rattle.ax_policy.specs.declared.policy.Policy.{Policy}
use Rattle.ax_policy.specs.Composites.{composite_tree, composites_of}
use Rattle.ax_policy.specs.Limits.{most_policy_bytes}
use Rattle.ax_policy.specs.Normal.{mode_word, normal_text, normal_tree, path_trees}
use Rattle.ax_policy.specs.Policies.{is_map, is_map_level, is_unused, has_no_others, mode_of, truth_of, if_short_text, policy_with, policy_in, policy_of}
use Rattle.ax_policy.specs.Rules.{rules_of}
use Rattle.ax_policy.proofs.CompositesAgain.{AreCompositesAgain, composites_hold, composites_again}
use Rattle.ax_policy.proofs.RulesAgain.{AreReadAgain, and_then_holds, holds_anyway, rules_hold, rules_again}
use Rattle.ax_policy.proofs.TreeLooks.{out_object}

-- what a policy has that was read
pub record IsReadable (policy : Policy) : Type 0 where
  pub rules : AreReadAgain policy.mode policy.rules
  pub composites : AreCompositesAgain policy.composites
  pub short : nat_le (length (normal_text policy)) most_policy_bytes ≡ true

-- ---- the members of a normal tree

abbrev some_tree : Tree → Option Tree
some_tree t = Some t

abbrev five : Policy → List (Member Tree)
five policy =
    record { name = codes "automatic"; value = trees.Truth policy.automatic }
    ∷ record { name = codes "compositeIndexes"; value = trees.List (map composite_tree policy.composites) }
    ∷ record { name = codes "excludedPaths"; value = trees.List (path_trees false policy.rules) }
    ∷ record { name = codes "includedPaths"; value = trees.List (path_trees true policy.rules) }
    ∷ record { name = codes "indexingMode"; value = trees.Text (mode_word policy.mode) } ∷ []

has_mode : (policy : Policy)
    → member (codes "indexingMode") (normal_tree policy) ≡ some_tree (trees.Text (mode_word policy.mode))
has_mode policy = ap (member_level (codes "indexingMode")) (out_object (five policy))

has_automatic : (policy : Policy)
    → member (codes "automatic") (normal_tree policy) ≡ some_tree (trees.Truth policy.automatic)
has_automatic policy = ap (member_level (codes "automatic")) (out_object (five policy))

has_included : (policy : Policy)
    → member (codes "includedPaths") (normal_tree policy) ≡ some_tree (trees.List (path_trees true policy.rules))
has_included policy = ap (member_level (codes "includedPaths")) (out_object (five policy))

has_excluded : (policy : Policy)
    → member (codes "excludedPaths") (normal_tree policy) ≡ some_tree (trees.List (path_trees false policy.rules))
has_excluded policy = ap (member_level (codes "excludedPaths")) (out_object (five policy))

has_composites : (policy : Policy)
    → member (codes "compositeIndexes") (normal_tree policy)
    ≡ some_tree (trees.List (map composite_tree policy.composites))
has_composites policy = ap (member_level (codes "compositeIndexes")) (out_object (five policy))

is_policy_map : (policy : Policy) → (is_map (normal_tree policy) && has_no_others (normal_tree policy)) ≡ true
is_policy_map policy =
    ap (λ y. is_map_level y
    && (is_unused (member_level (codes "spatialIndexes") y)
    && is_unused (member_level (codes "vectorIndexes") y)
    && is_unused (member_level (codes "fullTextIndexes") y))) (out_object (five policy))

abbrev some_mode : Mode → Option Mode
some_mode mode = Some mode

mode_again : (mode : Mode) → mode_of (some_tree (trees.Text (mode_word mode))) ≡ some_mode mode
unfolding tree.out-Tree denote.Hole.Carrier.out
mode_again Consistent = refl
mode_again Off = refl

abbrev some_truth : Bool → Option Bool
some_truth b = Some b

truth_again : (b : Bool) → truth_of (some_tree (trees.Truth b)) ≡ some_truth b
unfolding tree.out-Tree denote.Hole.Carrier.out
truth_again b = refl

-- ---- the policy again

abbrev some_policy : Policy → Option Policy
some_policy policy = Some policy

abbrev policy_from : Mode → Bool → List (Member Bool) → List (List Order) → Policy
policy_from mode automatic rules composites =
    record { mode = mode; automatic = automatic; rules = rules; composites = composites }

with_again : (policy : Policy) → IsReadable policy
    → policy_with (normal_tree policy) policy.mode policy.automatic ≡ some_policy policy
with_again policy is =
    ap (λ o. option_and_then
    (λ rules. option_and_then
    (λ composites. if_short_text (policy_from policy.mode policy.automatic rules composites))
    (composites_of (member (codes "compositeIndexes") (normal_tree policy)))) o)
    (ap (λ o. rules_of policy.mode o (member (codes "excludedPaths") (normal_tree policy))) (has_included policy)
    ∙ ap (rules_of policy.mode (some_tree (trees.List (path_trees true policy.rules)))) (has_excluded policy)
    ∙ rules_again policy.mode policy.rules is.rules)
    ∙ ap (λ o. option_and_then (λ composites. if_short_text (policy_from policy.mode policy.automatic policy.rules composites)) o)
    (ap composites_of (has_composites policy) ∙ composites_again policy.composites is.composites)
    ∙ ap (λ b. cond b (some_policy policy) None) is.short

pub policy_again : (policy : Policy) → IsReadable policy
    → policy_of (normal_tree policy) ≡ some_policy policy
policy_again policy is =
    ap (λ b. cond b (policy_in (normal_tree policy)) None) (is_policy_map policy)
    ∙ ap (λ o. option_and_then
    (λ mode. option_and_then (policy_with (normal_tree policy) mode) (truth_of (member (codes "automatic") (normal_tree policy)))) o)
    (ap mode_of (has_mode policy) ∙ mode_again policy.mode)
    ∙ ap (option_and_then (policy_with (normal_tree policy) policy.mode))
    (ap truth_of (has_automatic policy) ∙ truth_again policy.automatic)
    ∙ with_again policy is

-- ---- what is read is readable

short_holds : (policy : Policy) → AreReadAgain policy.mode policy.rules → AreCompositesAgain policy.composites
    → IfSome (if_short_text policy) IsReadable
short_holds policy r c = by_test (nat_le (length (normal_text policy)) most_policy_bytes) refl
  where
    by_test : (b : Bool) → nat_le (length (normal_text policy)) most_policy_bytes ≡ b
        → IfSome (cond b (some_policy policy) None) IsReadable
    by_test true e = record { rules = r; composites = c; short = e }
    by_test false e = tt

with_holds : (given : Tree) (mode : Mode) (automatic : Bool)
    → IfSome (policy_with given mode automatic) IsReadable
with_holds given mode automatic =
    and_then_holds (AreReadAgain mode) IsReadable
    (λ rules. option_and_then (λ composites. if_short_text (policy_from mode automatic rules composites))
    (composites_of (member (codes "compositeIndexes") given)))
    (rules_of mode (member (codes "includedPaths") given) (member (codes "excludedPaths") given))
    (rules_hold mode (member (codes "includedPaths") given) (member (codes "excludedPaths") given))
    (λ rules r. and_then_holds AreCompositesAgain IsReadable
    (λ composites. if_short_text (policy_from mode automatic rules composites))
    (composites_of (member (codes "compositeIndexes") given))
    (composites_hold (member (codes "compositeIndexes") given))
    (λ composites c. short_holds (policy_from mode automatic rules composites) r c))

in_holds : (given : Tree) → IfSome (policy_in given) IsReadable
in_holds given =
    and_then_holds (λ _. Unit {0}) IsReadable
    (λ mode. option_and_then (policy_with given mode) (truth_of (member (codes "automatic") given)))
    (mode_of (member (codes "indexingMode") given)) (holds_anyway (mode_of (member (codes "indexingMode") given)))
    (λ mode _. and_then_holds (λ _. Unit {0}) IsReadable (policy_with given mode)
    (truth_of (member (codes "automatic") given)) (holds_anyway (truth_of (member (codes "automatic") given)))
    (λ automatic _. with_holds given mode automatic))

policy_holds : (given : Tree) → IfSome (policy_of given) IsReadable
policy_holds given = by_test (is_map given && has_no_others given)
  where
    by_test : (b : Bool) → IfSome (cond b (policy_in given) None) IsReadable
    by_test true = in_holds given
    by_test false = tt

pub read_again : (given : Tree) (policy : Policy) → policy_of given ≡ some_policy policy
    → policy_of (normal_tree policy) ≡ some_policy policy
read_again given policy e =
    policy_again policy (subst (λ o. IfSome o IsReadable) e (policy_holds given))
