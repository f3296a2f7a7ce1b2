use Rattle.std.proofs.Common.{◌≡◌, ◌≤◌, length, false}
use Rattle.ax_skim.specs.Skipping.{past_text}
use Rattle.ax_skim.proofs.skip.after_text.Given as goal

abbrev pub invariant-loop-here : goal.invariant-loop-here
invariant-loop-here l =
    (past_text false l.rest ≡ past_text false l.text) × (length l.rest ≤ length l.text)

abbrev pub decreases-loop-here : goal.decreases-loop-here
decreases-loop-here l = length l.rest
