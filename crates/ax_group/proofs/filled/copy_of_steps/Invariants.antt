-- The copies so far are the first ones.
use Rattle.std.proofs.Common.{◌≡◌, take}
use Rattle.ax_group.proofs.filled.copy_of_steps.Given as goal

abbrev pub invariant-loop-step : goal.invariant-loop-step
invariant-loop-step l = l.copied.items ≡ take l.step-index l.steps
