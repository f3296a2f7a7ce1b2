use Rattle.std.proofs.Common.{◌≡◌, ◌≤◌, length}
use Rattle.ax_atoms.specs.Spans.{next_bytes}
use Rattle.ax_atoms.proofs.next.next_bytes.Given as goal

abbrev pub invariant-loop-last : goal.invariant-loop-last
invariant-loop-last l = record {
  all : next_bytes l.left ≡ next_bytes l.front;
  short : length l.left ≤ length l.front;
}

abbrev pub decreases-loop-last : goal.decreases-loop-last
decreases-loop-last l = length l.left
