use Rattle.ax_excerpt.proofs.KeptSteps.{kept_steps}
use Rattle.ax_excerpt.proofs.laws.kept_steps_lead_to_the_same.Goals as goal

pub returns : goal.returns
returns c = kept_steps
