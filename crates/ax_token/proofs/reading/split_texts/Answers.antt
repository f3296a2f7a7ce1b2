-- Each turn reads one more.
use Rattle.ax_token.specs.Reading.{first_sized, optional}
use Rattle.ax_token.proofs.Loops.{breaks_off, goes_on}
use Rattle.ax_token.proofs.reading.split_texts.Goals as goal

pub returns-in-Ok-None : goal.returns-in-Ok-None
returns-in-Ok-None c =
    breaks_off (optional first_sized) c.args.count c.loop-turn._turn c.loop-turn.rest.now c.loop-turn.values.items _
    c.loop-turn-test.true (rw c.in-Ok-None.field-0-is at c.in-Ok-None.ensures) c.loop-turn.invariant

pub loop-turn-preserved : goal.loop-turn-preserved
loop-turn-preserved c =
    goes_on (optional first_sized) c.args.count c.loop-turn._turn c.loop-turn.rest.now c.in-Ok-Some.value c.in-Ok-Some.after.now
    c.loop-turn.values.items c.push.new.self.items _
    c.loop-turn-test.true (rw c.in-Ok-Some.field-0-is at c.in-Ok-Some.ensures) c.in_ok-push-in-Ok-Some.ensures.items c.loop-turn.invariant
