use Rattle.std.proofs.Common.{refl, arith}
use Rattle.ax_gap.proofs.Long.{more}
use Rattle.ax_gap.proofs.varint.split_longer.Goals as goal

pub loop-i-preserved : goal.loop-i-preserved
loop-i-preserved c =
    more _ _ _ _ c.args.bytes.now c.loop-i.invariant (omega arith) refl (omega arith) (omega (arith, c.type_inv.bytes c.loop-i.i)) (omega arith)
