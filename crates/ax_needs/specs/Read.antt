-- Policies that were read, as every policy of a store is: only of these the test whether they cover every leaf at and below
-- a path tells all that is so, since it goes by the texts of their rules.
-- It is this project's own; it comes from no public document.
use Rattle.std.specs.Prelude.{◌≡◌, Some}
use Rattle.std.specs.List.{Contains}
use Rattle.ax_tree.specs.declared.tree.Tree.{Tree}
use Rattle.ax_policy.specs.declared.policy.Policy.{Policy}
use Rattle.ax_policy.specs.Policies.{policy_of}
use Rattle.ax_container.specs.Container.{Container}
use Rattle.ax_needs.specs.Needs.{policies_of}

-- the policy is that of a tree
abbrev pub IsRead : Policy → Type 0
IsRead policy = (given : Tree) × (policy_of given ≡ Some policy)

-- so are the policy now, and all by which documents are indexed
abbrev pub AreRead : Container → Type 0
AreRead container = (policy : Policy) → Contains (policies_of container) policy → IsRead policy
