use Rattle.ax_area.proofs.MadeWell.{made_well}
use Rattle.ax_area.proofs.laws.contents_are_well_made.Goals as goal

pub returns : goal.returns
returns c = made_well
