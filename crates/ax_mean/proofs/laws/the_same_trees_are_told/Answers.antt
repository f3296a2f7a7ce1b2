-- By induction on the first tree.
use Rattle.ax_mean.proofs.SameTrees.{same_trees, same_along}
use Rattle.ax_mean.proofs.laws.the_same_trees_are_told.Goals as goal

pub returns : goal.returns
returns c = λ a b. (same_trees a b, same_along a b)
