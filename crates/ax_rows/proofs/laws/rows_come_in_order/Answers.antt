use Rattle.ax_rows.proofs.Places.{rows_rise_strictly}
use Rattle.ax_rows.proofs.laws.rows_come_in_order.Goals as goal

pub returns : goal.returns
returns c = rows_rise_strictly
