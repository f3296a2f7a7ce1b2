use Rattle.std.proofs.Common.{◌∙◌, ap}
use Rattle.ax_sieve.proofs.Conjunctions.{along_items, one_more}
use Rattle.ax_sieve.proofs.conditions.conditions_of.Goals as goal
use Rattle.ax_sieve.proofs.conditions.conditions_of.Goals.{in-Some+in_ok-push, in_default}

pub loop-operand-preserved : goal.loop-operand-preserved
loop-operand-preserved c =
    elim c.match-of.branch [
      | in-Some+in_ok-push w ↦
          along_items _ _ _ _ (ap (λ v. v.items) w.conditions-is ∙ w.in_ok-push.ensures.items)
          (one_more c.args.alias.now c.args.operands.now c.loop-operand.operand-index c.operand-item.result
          c.loop-operand.conditions.items w.in-Some.condition c.loop-operand.invariant
          w.in-Some.ensures c.loop-operand-test.true c.operand-item.is)
      | in_default w ↦
          along_items _ _ _ _ (ap (λ v. v.items) w.conditions-is) c.loop-operand.invariant
    ]
