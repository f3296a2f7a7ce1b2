use Rattle.std.proofs.Common.{sym, ◌∙◌, arith}
use Rattle.ax_grammar.specs.StepReader.{turn_name_step}
use Rattle.ax_parse.specs.Said.{rest_said}
use Rattle.ax_parse.proofs.Turning.{turns-more, turns-ended, turns-failed, turns-over}
use Rattle.ax_parse.proofs.step.name_steps.Goals as goal

pub returns-in_err-name : goal.returns-in_err-name
returns-in_err-name c =
    grind (
      arith,
      c.loop-turn.invariant,
      c.in_err-name.ensures,
      turns-failed turn_name_step
          c.len-turn-end.result c.loop-turn._turn c.loop-turn.found (rest_said c.loop-turn.rest)
          (omega arith),
    )

pub returns-in_default : goal.returns-in_default
returns-in_default c =
    sym c.loop-turn.invariant
    ∙ turns-ended turn_name_step _ _ c.loop-turn.found _ (omega arith) (rw c.in_default.is at c.in_ok-name.ensures)

pub loop-turn-preserved : goal.loop-turn-preserved
loop-turn-preserved c =
    let e = rw c.in-Some.is at c.in_ok-name.ensures in
    rw c.in_ok-push.ensures.ok (sym (turns-more turn_name_step _ _ c.loop-turn.found c.in-Some.name (rest_said c.loop-turn.rest) (rest_said c.in-Some.after) (omega arith) e) ∙ c.loop-turn.invariant)

pub returns : goal.returns
returns c =
    sym c.loop-turn.invariant
    ∙ turns-over turn_name_step _ c.loop-turn.found (rest_said c.loop-turn.rest) (omega arith)
