use Rattle.ax_area.proofs.OneRoot.{one_root}
use Rattle.ax_area.proofs.laws.one_root.Goals as goal

pub returns : goal.returns
returns c = one_root
