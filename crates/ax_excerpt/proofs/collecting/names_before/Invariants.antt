-- The names so far, and those of the steps that are left.
use Rattle.std.proofs.Common.{◌≡◌, ◌++◌, drop}
use Rattle.ax_excerpt.specs.Excerpts.{names_before}
use Rattle.ax_excerpt.proofs.collecting.names_before.Given as goal

abbrev pub invariant-loop-step : goal.invariant-loop-step
invariant-loop-step l = l.names.items ++ names_before (drop l.step-index l.step-items) ≡ names_before l.path
