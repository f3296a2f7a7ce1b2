use Rattle.ax_pairs.proofs.Changed.{delta_set}
use Rattle.ax_pairs.proofs.laws.a_delta_makes_its_changes.Goals as goal

pub returns : goal.returns
returns c = delta_set
