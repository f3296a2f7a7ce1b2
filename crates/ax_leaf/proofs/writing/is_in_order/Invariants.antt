use Rattle.std.proofs.Common.{◌↔◌, ◌-◌, ◌≤◌, drop, get_or}
use Rattle.ax_pair.specs.Order.{Rise, RiseAfter, BeginsFrom}
use Rattle.ax_leaf.proofs.writing.is_in_order.Given as goal

abbrev pub invariant-loop-i : goal.invariant-loop-i
invariant-loop-i l =
    (Rise l.pairs ↔ RiseAfter (get_or l.pairs (l.i - 1) l.low) (drop l.i l.pairs)) × (1 ≤ l.i) × BeginsFrom l.low l.pairs
