-- For which queries the policy now keeps an order, as ORDER BY of Azure Cosmos DB for NoSQL asks for one.
use Rattle.std.specs.Prelude.{◌≡◌, Some}
use Rattle.ax_mean.specs.declared.query.Query.{Query}
use Rattle.ax_policy.specs.declared.policy.Policy.{Policy}
use Rattle.ax_policy.specs.Ordering.{Orderable}
use Rattle.ax_policy.specs.Table.{Table, policy_at}

-- the policy now keeps an index for the query's order
abbrev pub IsOrdered : Table → Query → Type 0
IsOrdered table query =
    (policy : Policy) → policy_at table table.current ≡ Some policy → Orderable policy query.orders
