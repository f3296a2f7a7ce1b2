use Rattle.ax_policy.proofs.Apart.{stay_apart}
use Rattle.ax_policy.proofs.laws.policies_stay_apart.Goals as goal

pub returns : goal.returns
returns c policy old new sets apart = stay_apart policy old new sets apart
