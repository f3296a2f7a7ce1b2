-- The steps left lead from the part to where all lead from the base.
use Rattle.std.proofs.Common.{◌≡◌, drop}
use Rattle.ax_mean.specs.Steps.{steps_from}
use Rattle.ax_eval.proofs.steps.steps_from.Given as goal

abbrev pub invariant-loop-step : goal.invariant-loop-step
invariant-loop-step l =
    steps_from l.part (drop l.step-index l.step-items) ≡ steps_from l.initial.part l.step-items
