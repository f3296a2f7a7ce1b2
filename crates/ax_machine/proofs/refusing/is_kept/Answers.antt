use Rattle.ax_machine.proofs.Orders.{by_test}
use Rattle.ax_machine.proofs.refusing.is_kept.Goals as goal

pub returns : goal.returns
returns c = by_test c.args.policy.now c.args.orders.now c.orderable.result c.orderable.ensures
