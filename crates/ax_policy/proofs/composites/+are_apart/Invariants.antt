-- What is left grows shorter.
use Rattle.std.proofs.Common.{length}
use Rattle.ax_policy.proofs.composites.+are_apart.Given as goal

abbrev pub decreases-are_apart : goal.decreases-are_apart
decreases-are_apart l = length l.parts.now
