-- The policy by which an engine judges the order of a query: the one that its table has under the number of the policy now.
-- It is this project's own; it comes from no public document.
use Rattle.std.specs.Option.{unwrap_or}
use Rattle.ax_policy.specs.Default.{default_policy}
use Rattle.ax_policy.specs.Table.{Table, policy_at}
use Rattle.ax_policy.specs.declared.policy.Policy.{Policy}

-- Every table has one there; the default stands for that of what is none.
abbrev pub policy_now : Table → Policy
policy_now table = unwrap_or (policy_at table table.current) default_policy
