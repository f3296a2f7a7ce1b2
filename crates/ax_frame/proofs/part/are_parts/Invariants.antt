use Rattle.std.proofs.Common.{length}
use Rattle.ax_frame.specs.Part.{AreParts}
use Rattle.ax_frame.proofs.part.are_parts.Given as goal

-- the whole is parts exactly where what remains is
abbrev pub invariant-loop-rest : goal.invariant-loop-rest
invariant-loop-rest l = (AreParts l.rest → AreParts l.bytes) × (AreParts l.bytes → AreParts l.rest)

abbrev pub decreases-loop-rest : goal.decreases-loop-rest
decreases-loop-rest l = length l.rest
