use Rattle.std.proofs.Common.{◌≤◌, max}
use Rattle.ax_store.proofs.together.together.Given as goal

abbrev pub invariant-loop-row : goal.invariant-loop-row
invariant-loop-row l = record { least : l.fn.text.len ≤ l.stretch.len; most : l.stretch.len ≤ max l.fn.text.len 262144 }
