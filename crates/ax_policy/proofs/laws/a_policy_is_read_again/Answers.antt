-- What is read has what makes it readable again.
use Rattle.ax_policy.proofs.PolicyAgain.{read_again}
use Rattle.ax_policy.proofs.laws.a_policy_is_read_again.Goals as goal

pub returns : goal.returns
returns c = read_again
