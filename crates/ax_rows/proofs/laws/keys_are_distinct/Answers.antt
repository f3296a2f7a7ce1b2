use Rattle.ax_rows.proofs.Places.{keys_rise_strictly}
use Rattle.ax_rows.proofs.laws.keys_are_distinct.Goals as goal

pub returns : goal.returns
returns c = keys_rise_strictly
