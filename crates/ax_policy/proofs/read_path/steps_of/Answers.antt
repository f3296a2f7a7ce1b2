-- A step more, or the end of what is read.
use Rattle.std.proofs.Common.{◌≡◌, ◌+◌, ◌-◌, length, arith, ap, subst, sym, ◌∙◌, true≢false}
use Rattle.std.specs.Str.{IsUtf8}
use Rattle.std.proofs.lemmas.Bool.{eqb-true, eq-eqb}
use Rattle.ax_policy.proofs.PathReading.{all_of, steps_end, steps_over, steps_wrong, steps_none, steps_more}
use Rattle.ax_policy.proofs.Utf8.{tail_utf8}
use Rattle.ax_policy.proofs.read_path.steps_of.Goals as goal

pub returns-in_default : goal.returns-in_default
returns-in_default c =
    ap all_of c.from_vec.ensures
    ∙ steps_end c.loop-turn.steps.items (length c.args.text.now - c.loop-turn._turn)
    c.loop-turn.rest.now _ c.in_default.ensures.cases c.loop-turn.invariant.made

pub returns-then-slash-ne47 : goal.returns-then-slash-ne47
returns-then-slash-ne47 c =
    steps_wrong c.loop-turn.steps.items (length c.args.text.now - c.loop-turn._turn)
    c.in-Some.slash.now c.loop-turn.rest.now c.in-Some.after.now _ c.in-Some.ensures.cases.0
    c.if-slash-ne47.true c.loop-turn.invariant.made

pub step_front-requires : goal.step_front-requires
step_front-requires c =
    tail_utf8 c.in-Some.slash.now c.in-Some.after.now
    (subst (λ bs. IsUtf8 bs) c.in-Some.ensures.cases.0 c.loop-turn.invariant.utf8)
    (omega (arith, c.if-slash-ne47.false))

pub returns-in_default-2 : goal.returns-in_default-2
returns-in_default-2 c =
    steps_none c.loop-turn.steps.items (length c.args.text.now - c.loop-turn._turn)
    c.in-Some.slash.now c.loop-turn.rest.now c.in-Some.after.now _ c.in-Some.ensures.cases.0
    c.if-slash-ne47.false (rw c.in_default-2.is at c.in_ok-step.ensures.found)
    c.loop-turn.invariant.made

pub loop-turn-preserved : goal.loop-turn-preserved
loop-turn-preserved c = record {
  utf8 = rw c.in-Some-2.is at c.in_ok-step.ensures.utf8;
  made =
      steps_more c.loop-turn.steps.items c.push.new.self.items c.in-Some-2.step
      (length c.args.text.now - c.loop-turn._turn) (length c.args.text.now - (c.loop-turn._turn + 1))
      c.in-Some.slash.now c.loop-turn.rest.now c.in-Some.after.now c.in-Some-2.next.now _
      c.in-Some.ensures.cases.0 c.if-slash-ne47.false (omega (arith, c.loop-turn-test.true))
      (rw c.in-Some-2.is at c.in_ok-step.ensures.found) c.in_ok-push.ensures.items
      c.loop-turn.invariant.made;
}

pub returns-then-is_empty : goal.returns-then-is_empty
returns-then-is_empty c =
    ap all_of c.from_vec-then-is_empty.ensures
    ∙ steps_end c.loop-turn.steps.items (length c.args.text.now - c.loop-turn._turn)
    c.loop-turn.rest.now _
    (eqb-true (length c.loop-turn.rest.now) 0 (sym c.is_empty.ensures ∙ c.if-is_empty.true))
    c.loop-turn.invariant.made

pub returns-else-is_empty : goal.returns-else-is_empty
returns-else-is_empty c =
    steps_over c.loop-turn.steps.items (length c.args.text.now - c.loop-turn._turn)
    c.loop-turn.rest.now _ (omega (arith, c.loop-turn-test.false))
    (λ (z : length c.loop-turn.rest.now ≡ 0). true≢false
    (sym (eq-eqb (length c.loop-turn.rest.now) 0 z) ∙ sym c.is_empty.ensures ∙ c.if-is_empty.false))
    c.loop-turn.invariant.made
