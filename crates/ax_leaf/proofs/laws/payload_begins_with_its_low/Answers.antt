use Rattle.ax_leaf.proofs.Lows.{leaf_low}
use Rattle.ax_leaf.proofs.laws.payload_begins_with_its_low.Goals as goal

pub returns : goal.returns
returns c = leaf_low
