-- What is left of the room is taken by what is left of the steps.
use Rattle.std.proofs.Common.{◌≡◌, drop, sum_by}
use Rattle.ax_policy.specs.Limits.{left_by, step_size}
use Rattle.ax_policy.proofs.limits.left_by_steps.Given as goal

abbrev pub invariant-loop-step : goal.invariant-loop-step
invariant-loop-step l =
    left_by l.room (sum_by step_size (drop l.step-index l.steps))
    ≡ left_by l.fn.room (sum_by step_size l.steps)
