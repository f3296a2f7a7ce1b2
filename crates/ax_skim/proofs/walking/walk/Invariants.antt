use Rattle.ax_skim.proofs.Blocked.{IsAt}
use Rattle.ax_skim.proofs.walking.walk.Given as goal

abbrev pub invariant-loop-left : goal.invariant-loop-left
invariant-loop-left l = IsAt l.brackets l.opens l.fn.depth l.left l.depth

abbrev pub decreases-loop-left : goal.decreases-loop-left
decreases-loop-left l = l.left
