use Rattle.std.proofs.Common.{refl}
use Rattle.ax_frame.proofs.laws.frame_again.Goals as goal

pub returns : goal.returns
returns c ps rest can = record { can = can; spelled = refl }
