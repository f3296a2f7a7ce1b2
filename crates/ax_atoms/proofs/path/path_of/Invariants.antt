-- What is made, with what the rest of the steps gives, is the whole.
use Rattle.std.proofs.Common.{◌≡◌, ◌++◌, drop, map}
use Rattle.ax_atoms.specs.Recognised.{step_of}
use Rattle.ax_atoms.proofs.path.path_of.Given as goal

abbrev pub invariant-loop-step : goal.invariant-loop-step
invariant-loop-step l =
    l.path.items ++ map step_of (drop l.step-index l.steps) ≡ map step_of l.steps
