use Rattle.ax_pairs.proofs.Sets.{nothing_held}
use Rattle.ax_pairs.proofs.laws.the_first_page_holds_nothing.Goals as goal

pub returns : goal.returns
returns c = nothing_held
