-- By induction on the tree.
use Rattle.ax_tree.proofs.Fitting.{numbers_fit-well_formed}
use Rattle.ax_tree.proofs.laws.numbers_of_well_formed_fit.Goals as goal

pub returns : goal.returns
returns c = numbers_fit-well_formed
