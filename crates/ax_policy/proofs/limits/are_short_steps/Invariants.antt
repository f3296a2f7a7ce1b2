-- What is left decides the whole.
use Rattle.std.proofs.Common.{◌≡◌, drop}
use Rattle.std.specs.List.{list_all}
use Rattle.ax_policy.specs.Limits.{is_short_step}
use Rattle.ax_policy.proofs.limits.are_short_steps.Given as goal

abbrev pub invariant-loop-step : goal.invariant-loop-step
invariant-loop-step l =
    list_all is_short_step (drop l.step-index l.steps) ≡ list_all is_short_step l.steps
