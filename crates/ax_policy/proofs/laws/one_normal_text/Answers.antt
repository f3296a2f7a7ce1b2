-- One text is of one tree, and that of one policy.
use Rattle.ax_policy.proofs.NormalFits.{one_policy}
use Rattle.ax_policy.proofs.laws.one_normal_text.Goals as goal

pub returns : goal.returns
returns c = one_policy
