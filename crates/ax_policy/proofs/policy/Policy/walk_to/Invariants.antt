use Rattle.std.proofs.Common.{take}
use Rattle.ax_policy.specs.Walking.{IsAt}
use Rattle.ax_policy.proofs.policy.Policy.walk_to.Given as goal

abbrev pub invariant-loop-step : goal.invariant-loop-step
invariant-loop-step l = IsAt l.walk l.fn.self (take l.step-index l.steps)
