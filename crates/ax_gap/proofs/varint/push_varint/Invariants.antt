use Rattle.std.proofs.Common.{◌≡◌, ◌++◌, take, length}
use Rattle.ax_gap.specs.Varint.{varint}
use Rattle.ax_gap.proofs.varint.push_varint.Given as goal

abbrev pub invariant-loop-high : goal.invariant-loop-high
invariant-loop-high l =
    (l.out.items ++ varint l.high ≡ l.fn.out.items ++ varint l.number)
    × (take (length l.fn.out.items) l.out.items ≡ l.fn.out.items)

abbrev pub decreases-loop-high : goal.decreases-loop-high
decreases-loop-high l = l.high
