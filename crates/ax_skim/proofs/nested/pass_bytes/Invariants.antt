use Rattle.std.proofs.Common.{◌≡◌, ◌+◌, ◌≤◌, length}
use Rattle.ax_skim.specs.Skipping.{past}
use Rattle.ax_skim.specs.Nested.{place_in}
use Rattle.ax_skim.proofs.nested.pass_bytes.Given as goal

abbrev pub invariant-loop-left : goal.invariant-loop-left
invariant-loop-left l =
    (past (place_in l.inside) l.depth l.rest ≡ past (place_in l.fn.inside) l.fn.depth l.text)
    × (l.depth + length l.rest ≤ l.fn.depth + length l.text)
    × (length l.rest + 64 ≤ length l.text + l.left) × (1 ≤ l.depth) × (l.left ≤ 64)

abbrev pub decreases-loop-left : goal.decreases-loop-left
decreases-loop-left l = l.left
