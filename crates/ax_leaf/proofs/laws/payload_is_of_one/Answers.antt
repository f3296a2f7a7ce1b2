use Rattle.ax_leaf.proofs.OneSpelling.{one_leaf}
use Rattle.ax_leaf.proofs.laws.payload_is_of_one.Goals as goal

pub returns : goal.returns
returns c = one_leaf
