use Rattle.std.proofs.Common.{◌≡◌, length}
use Rattle.ax_excerpt_text.specs.Fronts.{compared_inside, compared}
use Rattle.ax_excerpt_text.proofs.comparing.compare.Given as goal

abbrev pub invariant-loop-wanted : goal.invariant-loop-wanted
invariant-loop-wanted l = compared_inside l.left l.rest ≡ compared l.name l.members

abbrev pub decreases-loop-wanted : goal.decreases-loop-wanted
decreases-loop-wanted l = length l.left
