use Rattle.std.proofs.Common.{◌+◌, ◌*◌, length}
use Rattle.ax_excerpt.proofs.growing.+growing.Given as goal

abbrev pub decreases-with_path : goal.decreases-with_path
decreases-with_path l = 2 * length l.steps.now + 1

abbrev pub decreases-with_member : goal.decreases-with_member
decreases-with_member l = 2 * length l.steps.now + 2
