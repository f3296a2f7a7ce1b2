use Rattle.std.proofs.Common.{◌≡◌, ◌-◌, ◌<◌, ◌≤◌, drop, get_or, length, take}
use Rattle.ax_pair.specs.declared.pair.Pair.{Pair}
use Rattle.ax_index.specs.PageSizes.{base_bytes, rest_from, rest_of}
use Rattle.ax_index.proofs.sizes.base_len.Given as goal

abbrev pub invariant-loop-i : goal.invariant-loop-i
invariant-loop-i l = record {
  some : 0 < l.front;
  up_to : l.front ≤ l.i;
  few : l.bytes ≤ 4096;
  counted : 0 < length l.pairs → l.bytes ≡ base_bytes (take l.i l.pairs);
  fits : base_bytes (take l.front l.pairs) ≤ 4096;
  so_far : (d : Pair) → 0 < length l.pairs → rest_of l.pairs ≡ rest_from l.bytes (get_or l.pairs (l.i - 1) d) (drop l.front l.pairs) (drop l.i l.pairs);
}
