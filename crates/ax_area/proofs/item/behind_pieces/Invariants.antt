use Rattle.ax_area.specs.ItemTexts.{IsPiecedTo}
use Rattle.ax_area.proofs.item.behind_pieces.Given as goal

abbrev pub invariant-loop-left : goal.invariant-loop-left
invariant-loop-left l = IsPiecedTo l.fn.bytes l.fn.key l.fn.missing l.rest l.left

abbrev pub decreases-loop-left : goal.decreases-loop-left
decreases-loop-left l = l.left
