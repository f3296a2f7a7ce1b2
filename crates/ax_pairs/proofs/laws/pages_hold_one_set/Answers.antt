use Rattle.ax_pairs.proofs.Sets.{one_set}
use Rattle.ax_pairs.proofs.laws.pages_hold_one_set.Goals as goal

pub returns : goal.returns
returns c = one_set
