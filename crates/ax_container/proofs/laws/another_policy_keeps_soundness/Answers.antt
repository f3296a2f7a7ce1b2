use Rattle.ax_container.proofs.Repolicing.{changed}
use Rattle.ax_container.proofs.Soundness.{sound_stepped, sound_with_policy}
use Rattle.ax_container.proofs.laws.another_policy_keeps_soundness.Goals as goal

pub returns-clause-policy : goal.returns-clause-policy
returns-clause-policy c = λ before policy. sound_with_policy policy before

pub returns-clause-change : goal.returns-clause-change
returns-clause-change c = λ before after policy sound is. changed policy before after sound is

pub returns-clause-step : goal.returns-clause-step
returns-clause-step c = λ before n. sound_stepped n before
