-- What is left grows shorter.
use Rattle.std.proofs.Common.{length}
use Rattle.ax_policy.proofs.ordering.+same_paths.Given as goal

abbrev pub decreases-same_paths : goal.decreases-same_paths
decreases-same_paths l = length l.composite.now
