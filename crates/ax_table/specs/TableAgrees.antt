-- When a table of policies agrees with the contents of a store: the policy now has the same number in both, each
-- number that is in use or now has a policy in the table, no two of these are equal, only numbers that a part gave, and
-- 0, have one, where the disk is to be trusted a policy that the table has is the one of the text that its number has,
-- each count is that of the documents under that number, and every document below the table's mark is under the policy
-- now.
-- It is this project's own; it comes from no public document.
use Rattle.std.specs.Prelude.{◌≡◌, ◌<◌, ◌≤◌, ℕ, ◌==◌, Bool, true, count_by, Some, IsSome, IsTrue}
use Rattle.std.specs.FinMap as map
use Rattle.ax_area.specs.Contents.{Contents, Stored, is_given}
use Rattle.ax_image_grammar.specs.Payloads.{IsTextOf}
use Rattle.ax_image_grammar.specs.Table.{IsTaken, policy_text}
use Rattle.ax_pages.specs.AfterPart.{most_documents}
use Rattle.ax_policy.specs.Normal.{normal_tree}
use Rattle.ax_policy.specs.Policies.{policy_of}
use Rattle.ax_policy.specs.Table.{AreApart, Table, count_at, policy_at}
use Rattle.ax_policy.specs.declared.policy.Policy.{Policy}

-- the document is under the policy of that number
abbrev pub is_under : ℕ → ℕ × Stored → Bool
is_under number document = document.1.policy == number

-- how many documents are
abbrev pub documents_under : ℕ → Contents → ℕ
documents_under number contents = count_by (is_under number) (map.entries contents.documents)

-- each policy of the table is that of its own normal text
abbrev pub ArePolicies : Table → Type 0
ArePolicies table = (number : ℕ) (policy : Policy) → policy_at table number ≡ Some policy → policy_of (normal_tree policy) ≡ Some policy

pub record TableAgrees (honest : Bool) (table : Table) (contents : Contents) : Type 0 where
  pub now : table.current ≡ contents.policy_now
  -- a part gave it, or it is number 0
  pub given : is_given contents.policy_now contents ≡ true
  pub known : (number : ℕ) → IsTaken number contents → IsSome (policy_at table number)
  pub policies : ArePolicies table
  -- no two numbers in use or now have equal ones
  pub apart : AreApart table
  -- a part gave each number that has a policy, or it is number 0
  pub only_given : (number : ℕ) (policy : Policy) → policy_at table number ≡ Some policy → is_given number contents ≡ true
  pub texts : IsTrue honest → (number : ℕ) (policy : Policy) → policy_at table number ≡ Some policy
      → IsTextOf (policy_text number contents) policy
  pub counts : (number : ℕ) → count_at table number ≡ documents_under number contents
  -- every document of a number below the table's mark is under the policy now
  pub moved : (number : ℕ) (document : Stored) → number < table.moved → map.get contents.documents number ≡ Some document
      → document.policy ≡ table.current
  -- no more are held than a store holds
  pub few : map.len contents.documents ≤ most_documents
