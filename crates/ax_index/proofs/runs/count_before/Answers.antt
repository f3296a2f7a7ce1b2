use Rattle.ax_index.proofs.RunLemmas.{before_more, is_less, not_less, same_before, starts_here}
use Rattle.ax_index.proofs.runs.count_before.Goals as goal

pub loop-i-preserved : goal.loop-i-preserved
loop-i-preserved c =
    before_more _ c.args.changes.now c.loop-i.i c.index-changes-i.result c.loop-i-test.true c.index-changes-i.is c.loop-i.invariant
    (is_less _ (same_before _ _ _ _ _ c.is_before.ensures c.of.ensures c.if-not-is_before.false))

pub returns-then-not-is_before-clause-parted : goal.returns-then-not-is_before-clause-parted
returns-then-not-is_before-clause-parted c = record {
  are_before = c.loop-i.invariant;
  starts = starts_here _ c.args.changes.now c.loop-i.i c.index-changes-i.result c.loop-i-test.true c.index-changes-i.is
      (not_less _ (same_before _ _ _ _ _ c.is_before.ensures c.of.ensures c.if-not-is_before.true));
}
