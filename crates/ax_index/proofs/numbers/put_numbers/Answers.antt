use Rattle.std.proofs.Common.{◌∙◌, sym}
use Rattle.ax_index.proofs.NumbersFrom.{numbers_passed, numbers_taken}
use Rattle.ax_index.proofs.numbers.put_numbers.Goals as goal

pub loop-at-preserved-then-not-is_within_some : goal.loop-at-preserved-then-not-is_within_some
loop-at-preserved-then-not-is_within_some c =
    numbers_passed c.args.ranges.now c.args.pairs.now c.loop-at.at _ _ _ c.pair-number.ensures
    (sym c.is_within_some.ensures ∙ c.if-not-is_within_some.true) c.loop-at.invariant

pub loop-at-preserved : goal.loop-at-preserved
loop-at-preserved c =
    numbers_taken c.args.ranges.now c.args.pairs.now c.loop-at.at _ _ _ _ c.pair-number.ensures
    (sym c.is_within_some.ensures ∙ c.if-not-is_within_some.false) c.in_ok-push.ensures.items c.loop-at.invariant
