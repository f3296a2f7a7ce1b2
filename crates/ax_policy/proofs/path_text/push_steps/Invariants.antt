-- The text so far, and that of the steps that are left.
use Rattle.std.proofs.Common.{◌≡◌, ◌++◌, drop, string_bytes}
use Rattle.ax_policy.specs.Paths.{steps_text}
use Rattle.ax_policy.proofs.path_text.push_steps.Given as goal

abbrev pub invariant-loop-step : goal.invariant-loop-step
invariant-loop-step l =
    string_bytes l.text ++ steps_text (drop l.step-index l.steps)
    ≡ string_bytes l.initial.text ++ steps_text l.steps
