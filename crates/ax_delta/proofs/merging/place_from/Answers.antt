use Rattle.std.proofs.Common.{arith, refl, ◌∙◌, ◌+◌, ◌-◌, ◌/◌}
use Rattle.ax_delta.specs.View.{changes_left}
use Rattle.ax_delta.proofs.Placing.{IsPast, past_there, not_passed_there, nothing_passed}
use Rattle.ax_delta.proofs.merging.place_from.Goals as goal

pub loop-low-init : goal.loop-low-init
loop-low-init c = record {
  order = omega (arith, c.requires.within, c.len-high.ensures);
  within = omega (arith, c.len-high.ensures);
  rise = c.requires.rise;
  same = refl;
  not_passed = nothing_passed _ c.args.pairs.now c.len-high.result (omega (arith, c.len-high.ensures));
}

pub is_passed-requires-clause-within : goal.is_passed-requires-clause-within
is_passed-requires-clause-within c = omega (arith, c.loop-low-test.true, c.loop-low.invariant.within)

pub loop-low-preserved-then-is_passed : goal.loop-low-preserved-then-is_passed
loop-low-preserved-then-is_passed c =
    let past : IsPast c.args.pairs.now (changes_left c.args.changes.now) c.loop-low.low (c.loop-low.low + (c.loop-low.high - c.loop-low.low) / 2 + 1) =
    past_there c.args.pairs.now (changes_left c.args.changes.now) c.loop-low.low (c.loop-low.low + (c.loop-low.high - c.loop-low.low) / 2) (omega arith)
    (omega (arith, c.loop-low-test.true, c.loop-low.invariant.within)) c.loop-low.invariant.rise c.if-is_passed.ensures
    in
    record {
      order = omega (arith, c.loop-low-test.true);
      within = c.loop-low.invariant.within;
      rise = past.rise;
      same = past.same ∙ c.loop-low.invariant.same;
      not_passed = c.loop-low.invariant.not_passed;
    }

pub loop-low-preserved : goal.loop-low-preserved
loop-low-preserved c = record {
  order = omega arith;
  within = omega (arith, c.loop-low-test.true, c.loop-low.invariant.within);
  rise = c.loop-low.invariant.rise;
  same = c.loop-low.invariant.same;
  not_passed = not_passed_there _ _ c.if-is_passed.ensures;
}
