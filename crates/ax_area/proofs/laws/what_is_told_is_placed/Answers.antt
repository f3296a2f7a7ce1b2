use Rattle.ax_area.proofs.Placing.{placed_in}
use Rattle.ax_area.proofs.laws.what_is_told_is_placed.Goals as goal

pub returns : goal.returns
returns c = placed_in
