-- What is left grows shorter.
use Rattle.std.proofs.Common.{length}
use Rattle.ax_policy.proofs.overlap.+overlap.Given as goal

abbrev pub decreases-overlap : goal.decreases-overlap
decreases-overlap l = length l.steps.now
