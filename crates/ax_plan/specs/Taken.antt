-- By which policies of a table documents have their terms, those that are held and those that are written now.
-- It is this project's own; it comes from no public document.
use Rattle.std.specs.Prelude.{◌≡◌, ◌≤◌, ℕ, true, Some}
use Rattle.ax_policy.specs.declared.policy.Policy.{Policy}
use Rattle.ax_policy.specs.Table.{Table, is_taken, policy_at}

-- the policy has a number, of those from 0 to 8, that is in use or now
pub record IsTaken (table : Table) (policy : Policy) : Type 0 where
  pub number : ℕ
  pub last : number ≤ 8
  pub taken : is_taken table number ≡ true
  pub stands : policy_at table number ≡ Some policy

-- this holds of each policy that is in use or now
abbrev pub HoldsOfTaken : Table → (Policy → Type 0) → Type 0
HoldsOfTaken table P = (policy : Policy) → IsTaken table policy → P policy
