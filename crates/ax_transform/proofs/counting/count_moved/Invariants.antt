-- What is left to count, counted from the table so far, is all counted from the table at first.
use Rattle.std.proofs.Common.{◌≡◌, drop}
use Rattle.std.specs.Prelude.{IsSome}
use Rattle.ax_policy.specs.Table.{Table, policy_at}
use Rattle.ax_transform.proofs.counting.count_moved.Given as goal
use Rattle.ax_transform.specs.Gathering.{CountAllMoved, MayAllBeMoved}

abbrev pub invariant-loop-policy : goal.invariant-loop-policy
invariant-loop-policy l = record {
  rest : (new : Table) → CountAllMoved (drop l.policy-index l.policies) l.table new → CountAllMoved l.policies l.fn.table new;
  may : MayAllBeMoved (drop l.policy-index l.policies) l.table;
  same : l.table.current ≡ l.now;
  given : IsSome (policy_at l.table l.now);
}
