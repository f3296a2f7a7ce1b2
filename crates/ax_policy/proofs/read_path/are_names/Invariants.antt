-- What is left decides the whole.
use Rattle.std.proofs.Common.{◌≡◌, drop}
use Rattle.std.specs.List.{list_all}
use Rattle.ax_policy.specs.Paths.{is_name}
use Rattle.ax_policy.proofs.read_path.are_names.Given as goal

abbrev pub invariant-loop-step : goal.invariant-loop-step
invariant-loop-step l = list_all is_name (drop l.step-index l.steps) ≡ list_all is_name l.steps
