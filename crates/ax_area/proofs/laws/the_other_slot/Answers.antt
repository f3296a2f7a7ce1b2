use Rattle.ax_area.proofs.OneRoot.{beside}
use Rattle.ax_area.proofs.laws.the_other_slot.Goals as goal

pub returns : goal.returns
returns c = beside
