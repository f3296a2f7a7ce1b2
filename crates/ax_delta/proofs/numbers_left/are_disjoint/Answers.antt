use Rattle.std.proofs.Common.{arith}
use Rattle.ax_delta.proofs.Numbers.{left_at_first, left_first, left_second}
use Rattle.ax_delta.proofs.numbers_left.are_disjoint.Goals as goal

pub loop-number-init : goal.loop-number-init
loop-number-init c = left_at_first _ _ _ _ c.of-added.ensures c.of-dropped.ensures c.requires.additions c.requires.removals

pub loop-number-preserved-then-number-other-2 : goal.loop-number-preserved-then-number-other-2
loop-number-preserved-then-number-other-2 c =
    left_first c.loop-number.added c.loop-number.dropped c.args.added.numbers c.args.dropped.numbers c.pass.new.self c.in-Some.number c.in-Some-first.other
    c.loop-number.invariant c.in-Some.ensures c.in-Some-first.ensures (omega arith) c.pass.ensures

pub loop-number-preserved : goal.loop-number-preserved
loop-number-preserved c =
    left_second c.loop-number.added c.loop-number.dropped c.args.added.numbers c.args.dropped.numbers c.pass-else-number-other-2.new.self c.in-Some.number
    c.in-Some-first.other
    c.loop-number.invariant c.in-Some.ensures c.in-Some-first.ensures (omega arith) c.pass-else-number-other-2.ensures
