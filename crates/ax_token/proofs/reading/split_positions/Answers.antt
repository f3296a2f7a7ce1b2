-- Each turn reads one more.
use Rattle.ax_token.specs.Reading.{first_u32}
use Rattle.ax_token.proofs.Loops.{breaks_off, goes_on}
use Rattle.ax_token.proofs.reading.split_positions.Goals as goal

pub returns-in_default : goal.returns-in_default
returns-in_default c =
    breaks_off first_u32 c.args.count c.loop-turn._turn c.loop-turn.rest.now c.loop-turn.place.items _
    c.loop-turn-test.true c.in_default.ensures c.loop-turn.invariant

pub loop-turn-preserved : goal.loop-turn-preserved
loop-turn-preserved c =
    goes_on first_u32 c.args.count c.loop-turn._turn c.loop-turn.rest.now c.in-Some.position c.in-Some.after.now
    c.loop-turn.place.items c.push.new.self.items _
    c.loop-turn-test.true c.in-Some.ensures c.in_ok-push.ensures.items c.loop-turn.invariant
