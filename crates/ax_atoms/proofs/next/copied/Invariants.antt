use Rattle.std.proofs.Common.{◌≡◌, ◌++◌, drop}
use Rattle.ax_atoms.proofs.next.copied.Given as goal

abbrev pub invariant-loop-step : goal.invariant-loop-step
invariant-loop-step l = l.path.items ++ drop l.step-index l.steps ≡ l.steps
