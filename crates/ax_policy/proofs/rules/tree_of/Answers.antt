use Rattle.std.proofs.Common.{Some, subst, arith}
use Rattle.ax_policy.specs.RuleTrees.{TextAdded}
use Rattle.ax_policy.proofs.SamePaths.{next_added}
use Rattle.ax_policy.proofs.rules.tree_of.Goals as goal

pub loop-rule-preserved : goal.loop-rule-preserved
loop-rule-preserved c =
    next_added c.args.rules.now c.loop-rule.rule-index c.rule-item.result (Some c.loop-rule.tree) (Some c.in_ok-tree.tree)
    (omega (arith, c.loop-rule-test.true, c.loop-rule.auto.rule-index-end)) c.rule-item.is
    c.loop-rule.invariant.0 c.loop-rule.invariant.1
    (subst (λ t. TextAdded (Some c.loop-rule.tree) t c.rule-item.result.value (Some c.in_ok-tree.tree))
    c.as_str.ensures.text c.in_ok-tree.ensures)
