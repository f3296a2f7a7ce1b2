-- What is left of the text compares with what is left to come as the whole does.
use Rattle.std.proofs.Common.{◌≡◌, ℕ, List, ◌++◌, drop}
use Rattle.std.specs.Cmp.Lexicographic.{slice_cmp}
use Rattle.std.specs.Ordering.{nat_cmp}
use Rattle.ax_policy.specs.Paths.{steps_text}
use Rattle.ax_policy.proofs.compare.after_steps.Given as goal

abbrev pub invariant-loop-step : goal.invariant-loop-step
invariant-loop-step l =
    (follow : List ℕ) → slice_cmp nat_cmp l.fn.text (steps_text l.steps ++ follow)
    ≡ slice_cmp nat_cmp l.rest (steps_text (drop l.step-index l.steps) ++ follow)
