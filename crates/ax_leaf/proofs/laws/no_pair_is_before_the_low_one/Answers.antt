use Rattle.ax_leaf.proofs.FromLow.{from_low}
use Rattle.ax_leaf.proofs.laws.no_pair_is_before_the_low_one.Goals as goal

pub returns : goal.returns
returns c = from_low
