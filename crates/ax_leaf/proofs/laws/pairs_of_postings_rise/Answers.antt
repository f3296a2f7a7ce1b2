use Rattle.ax_leaf.proofs.FromLow.{pairs_rise}
use Rattle.ax_leaf.proofs.laws.pairs_of_postings_rise.Goals as goal

pub returns : goal.returns
returns c = pairs_rise
