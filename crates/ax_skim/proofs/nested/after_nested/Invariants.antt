use Rattle.std.proofs.Common.{◌≡◌, ◌+◌, ◌≤◌, length, false}
use Rattle.ax_skim.specs.Skipping.{outside, past}
use Rattle.ax_skim.specs.Nested.{place_in}
use Rattle.ax_skim.proofs.nested.after_nested.Given as goal

abbrev pub invariant-loop-depth : goal.invariant-loop-depth
invariant-loop-depth l =
    (past (place_in l.inside) l.depth l.rest ≡ past outside 1 l.text)
    × (l.depth + length l.rest ≤ length l.text + 1) × (l.depth ≡ 0 → l.inside ≡ false)
    × (length l.rest ≤ length l.text)

abbrev pub decreases-loop-depth : goal.decreases-loop-depth
decreases-loop-depth l = length l.rest
