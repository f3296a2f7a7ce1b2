-- What is left grows shorter.
use Rattle.std.proofs.Common.{length}
use Rattle.ax_policy.proofs.ordering.+same_ways.Given as goal

abbrev pub decreases-same_ways : goal.decreases-same_ways
decreases-same_ways l = length l.composite.now
