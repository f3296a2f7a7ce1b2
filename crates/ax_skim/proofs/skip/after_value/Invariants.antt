use Rattle.std.proofs.Common.{◌≡◌, ◌≤◌, length}
use Rattle.ax_skim.specs.Skipping.{outside, past, past_value}
use Rattle.ax_skim.proofs.skip.after_value.Given as goal

abbrev pub invariant-loop-byte : goal.invariant-loop-byte
invariant-loop-byte l =
    (past outside 0 l.rest ≡ past_value l.text) × (length l.rest ≤ length l.text)

abbrev pub decreases-loop-byte : goal.decreases-loop-byte
decreases-loop-byte l = length l.rest
