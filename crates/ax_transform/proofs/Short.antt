-- The normal text of a policy that is read fits into a part.
use Rattle.std.proofs.Common.{◌≡◌, ◌≤◌, Bool, true, false, cond, length, Option, Some, None, refl, subst, arith}
use Rattle.std.specs.Prelude.{◌&&◌, codes, nat_le, option_and_then}
use Rattle.std.proofs.lemmas.Bool.{leb-true}
use Rattle.ax_policy.specs.Composites.{composites_of}
use Rattle.ax_policy.specs.Limits.{most_policy_bytes}
use Rattle.ax_policy.specs.Normal.{normal_text, normal_tree}
use Rattle.ax_policy.specs.Policies.{has_no_others, if_short_text, is_map, mode_of, policy_in, policy_of, policy_with, truth_of}
use Rattle.ax_policy.specs.Rules.{rules_of}
use Rattle.ax_policy.specs.declared.mode.Mode.{Mode}
use Rattle.ax_policy.specs.declared.policy.Policy.{Policy}
use Rattle.ax_tree.specs.Document.{member}
use Rattle.ax_tree.specs.declared.tree.Tree.{Tree}

-- what was answered was answered of something
of_some : {A B : Type 0} (f : A → Option B) (found : Option A) (b : B) → option_and_then f found ≡ Some b → (a : A) × (f a ≡ Some b)
of_some f None b is = absurd cc
of_some f (Some a) b is = (a, is)

is_short : (policy other : Policy) → if_short_text other ≡ Some policy → length (normal_text policy) ≤ most_policy_bytes
is_short policy other is = by_test (nat_le (length (normal_text other)) most_policy_bytes) refl is
  where
    by_test : (b : Bool) → nat_le (length (normal_text other)) most_policy_bytes ≡ b → cond b (Some other) None ≡ Some policy
        → length (normal_text policy) ≤ most_policy_bytes
    by_test true short same =
        let one : other ≡ policy = cc in
        subst (λ (p : Policy). length (normal_text p) ≤ most_policy_bytes) one (leb-true (length (normal_text other)) most_policy_bytes short)
    by_test false short same = absurd cc

short_with : (given : Tree) (policy : Policy) (mode : Mode) (automatic : Bool) → policy_with given mode automatic ≡ Some policy
    → length (normal_text policy) ≤ most_policy_bytes
short_with given policy mode automatic is =
    let rules = of_some _ (rules_of mode (member (codes "includedPaths") given) (member (codes "excludedPaths") given)) policy is in
    let composites = of_some _ (composites_of (member (codes "compositeIndexes") given)) policy rules.1 in
    is_short policy (record { mode = mode; automatic = automatic; rules = rules.0; composites = composites.0 }) composites.1

short_of : (given : Tree) (policy : Policy) → policy_of given ≡ Some policy → length (normal_text policy) ≤ most_policy_bytes
short_of given policy is = by_test (is_map given && has_no_others given) is
  where
    by_test : (b : Bool) → cond b (policy_in given) None ≡ Some policy → length (normal_text policy) ≤ most_policy_bytes
    by_test true there =
        let mode = of_some (λ (m : Mode). option_and_then (policy_with given m) (truth_of (member (codes "automatic") given)))
        (mode_of (member (codes "indexingMode") given)) policy there in
        let automatic = of_some (policy_with given mode.0) (truth_of (member (codes "automatic") given)) policy mode.1 in
        short_with given policy mode.0 automatic.0 automatic.1
    by_test false there = absurd cc

pub fits_part : (policy : Policy) → policy_of (normal_tree policy) ≡ Some policy → length (normal_text policy) ≤ 65536
fits_part policy is = omega (arith, short_of (normal_tree policy) policy is)
