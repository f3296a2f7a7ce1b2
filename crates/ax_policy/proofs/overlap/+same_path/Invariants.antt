-- What is left grows shorter.
use Rattle.std.proofs.Common.{length}
use Rattle.ax_policy.proofs.overlap.+same_path.Given as goal

abbrev pub decreases-same_path : goal.decreases-same_path
decreases-same_path l = length l.steps.now
