use Rattle.ax_leaf.proofs.SamePairs.{same_pairs}
use Rattle.ax_leaf.proofs.laws.postings_hold_the_pairs.Goals as goal

pub returns : goal.returns
returns c = same_pairs
