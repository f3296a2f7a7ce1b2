use Rattle.std.proofs.Common.{ℕ, List, length, arith, ap}
use Rattle.ax_index.proofs.DeltaSizes.{counted_more}
use Rattle.ax_index.proofs.sizes.delta_len.Goals as goal

pub loop-i-preserved : goal.loop-i-preserved
loop-i-preserved c = record {
  counted = omega (
    arith,
    c.loop-i.invariant.counted,
    ap (λ (t : List ℕ). length t) c.as_slice.ensures,
    counted_more c.args.changes.now c.loop-i.i c.index-changes-i.result c.loop-i-test.true c.index-changes-i.is,
  );
  within = omega arith;
}
