use Rattle.ax_term.proofs.Cutting.{cutting}
use Rattle.ax_term.proofs.laws.cutting_keeps_the_order_of_values.Goals as goal

pub returns : goal.returns
returns c = cutting
