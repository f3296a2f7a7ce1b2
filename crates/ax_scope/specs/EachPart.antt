-- An operand with its operator, and a member, where the expression is seen as something.
use Rattle.ax_tree.specs.declared.members.Member.{Member}
use Rattle.ax_mean.specs.declared.expr.Chained.{Chained}
use Rattle.ax_mean.specs.declared.expr.Expr.{Expr}

abbrev pub chained_seen : {X : Type 0} → (Expr → X) → Chained Expr → Chained X
chained_seen seen c = record { op = c.op; operand = seen c.operand }

abbrev pub member_seen : {X : Type 0} → (Expr → X) → Member Expr → Member X
member_seen seen m = record { name = m.name; value = seen m.value }
