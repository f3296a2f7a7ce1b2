use Rattle.std.proofs.Common.{◌≡◌, ◌≤◌, length, drop}
use Rattle.ax_pair.specs.Order.{Rise}
use Rattle.ax_delta.specs.Changes.{changes_of}
use Rattle.ax_delta.specs.Pass.{merged, merged_from}
use Rattle.ax_delta.specs.View.{IsReady, changes_left}
use Rattle.ax_delta.proofs.merging.passed.Given as goal

abbrev pub invariant-loop-after : goal.invariant-loop-after
invariant-loop-after l = record {
  ready : IsReady l.changes;
  within : l.at ≤ length l.after;
  rise : Rise (drop l.at l.after);
  made : merged_from l.at l.after (changes_left l.changes) ≡ merged l.fn.pairs (changes_of l.fn.delta);
}

abbrev pub decreases-loop-after : goal.decreases-loop-after
decreases-loop-after l = length (changes_left l.changes)
