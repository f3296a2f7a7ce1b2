-- The steps that were gone over are names.
use Rattle.std.proofs.Common.{◌≡◌, drop}
use Rattle.std.specs.List.{list_all}
use Rattle.ax_plan.specs.Combining.{is_by_name}
use Rattle.ax_plan.proofs.sought.are_names.Given as goal

abbrev pub invariant-loop-step : goal.invariant-loop-step
invariant-loop-step l = list_all is_by_name (drop l.step-index l.steps) ≡ list_all is_by_name l.fn.steps
