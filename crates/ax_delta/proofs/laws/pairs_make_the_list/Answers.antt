use Rattle.ax_delta.proofs.OneList.{one_list}
use Rattle.ax_delta.proofs.laws.pairs_make_the_list.Goals as goal

pub returns : goal.returns
returns c = one_list
