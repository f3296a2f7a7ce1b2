-- The changes of the index that a write of a document makes: out go its pairs as it was, in come those of it as it is
-- to be, each under the policy of a number of the table.
-- It is this project's own; it comes from no public document.
use Rattle.std.specs.Prelude.{◌≡◌, ℕ, List, Option, Some}
use Rattle.ax_delta.specs.declared.change.Change.{Change}
use Rattle.ax_index.specs.DeltaSizes.{HaveShortTerms}
use Rattle.ax_keep.specs.Exchanges.{Exchanges}
use Rattle.ax_keep.specs.Owned.{Owns}
use Rattle.ax_policy.specs.Table.{Table, policy_at}
use Rattle.ax_policy.specs.declared.policy.Policy.{Policy}
use Rattle.ax_tree.specs.declared.tree.Tree.{Tree}

pub record IsExchanged (table : Table) (number before : ℕ) (old : Option Tree) (after : ℕ) (new : Option Tree) (changes : List Change)
    : Type 0 where
  pub old_under : Policy
  pub new_under : Policy
  pub before_is : policy_at table before ≡ Some old_under
  pub after_is : policy_at table after ≡ Some new_under
  pub exchanges : Exchanges (Owns number old_under old) (Owns number new_under new) changes
  pub short : HaveShortTerms changes
