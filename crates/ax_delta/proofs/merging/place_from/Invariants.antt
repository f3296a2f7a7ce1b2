use Rattle.std.proofs.Common.{◌≡◌, ◌≤◌, ◌-◌, IfSome, length, drop, slice_get}
use Rattle.ax_pair.specs.Order.{Rise}
use Rattle.ax_delta.specs.Pass.{merged_from, IsNotPassed}
use Rattle.ax_delta.specs.View.{changes_left}
use Rattle.ax_delta.proofs.merging.place_from.Given as goal

abbrev pub invariant-loop-low : goal.invariant-loop-low
invariant-loop-low l = record {
  order : l.low ≤ l.high;
  within : l.high ≤ length l.pairs;
  rise : Rise (drop l.low l.pairs);
  same : merged_from l.low l.pairs (changes_left l.changes) ≡ merged_from l.fn.from l.fn.pairs (changes_left l.fn.changes);
  not_passed : IfSome (slice_get l.pairs l.high) (IsNotPassed (changes_left l.changes));
}

abbrev pub decreases-loop-low : goal.decreases-loop-low
decreases-loop-low l = l.high - l.low
