-- A text that goes on behind the steps begins with them.
use Rattle.ax_policy.proofs.Comparisons.{begins_ok, begins_err}
use Rattle.ax_policy.proofs.covering.begins_with.Goals as goal

pub returns-in-Ok : goal.returns-in-Ok
returns-in-Ok c = begins_ok c.args.text.now c.args.steps.now c.in-Ok._rest.now c.in-Ok.ensures.rest

pub returns-in-Err : goal.returns-in-Err
returns-in-Err c = begins_err c.args.text.now c.args.steps.now c.in-Err._order c.in-Err.ensures.order
