use Rattle.ax_delta.proofs.OneList.{one_delta}
use Rattle.ax_delta.proofs.laws.payload_is_of_one.Goals as goal

pub returns : goal.returns
returns c = one_delta
