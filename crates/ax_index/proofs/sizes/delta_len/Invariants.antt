use Rattle.std.proofs.Common.{◌≡◌, ◌≤◌, take}
use Rattle.ax_index.specs.DeltaSizes.{counted_bytes}
use Rattle.ax_index.proofs.sizes.delta_len.Given as goal

abbrev pub invariant-loop-i : goal.invariant-loop-i
invariant-loop-i l = record {
  counted : l.bytes ≡ counted_bytes (take l.i l.changes);
  within : l.bytes ≤ 60000;
}
