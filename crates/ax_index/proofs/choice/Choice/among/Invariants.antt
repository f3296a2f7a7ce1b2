use Rattle.std.proofs.Common.{length}
use Rattle.ax_index.proofs.choice.Choice.among.Given as goal

abbrev pub decreases-loop-rest : goal.decreases-loop-rest
decreases-loop-rest g l = length l.rest
