use Rattle.ax_area.proofs.KeptSo.{told_in}
use Rattle.ax_area.proofs.laws.what_is_held_was_told.Goals as goal

pub returns : goal.returns
returns c = told_in
