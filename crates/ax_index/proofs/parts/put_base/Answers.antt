use Rattle.std.proofs.Common.{ap, arith, length, List, ℕ}
use Rattle.ax_index.proofs.BaseSizes.{base_fits}
use Rattle.ax_index.proofs.parts.put_base.Goals as goal

pub put_part-requires : goal.put_part-requires
put_part-requires c =
    omega (
      arith,
      ap (λ (bytes : List ℕ). length bytes) c.as_slice.ensures.value,
      base_fits c.in_ok-payload.payload.items c.args.low.now c.args.pairs.now c.in_ok-payload.ensures c.requires.short c.requires.few,
    )
