use Rattle.ax_sieve.proofs.Comparisons.{steps_compared}
use Rattle.ax_sieve.proofs.condition.Condition.of.Goals as goal

pub returns : goal.returns
returns c =
    steps_compared c.args.alias.now c.in_ok-steps.steps.now c.in_ok-op.op c.args.expr.now
    c.in_ok-op.left.now c.in_ok-op.right.now c.in_ok-literal.literal
    c.in_ok-op.ensures c.in_ok-steps.ensures c.in_ok-literal.ensures
