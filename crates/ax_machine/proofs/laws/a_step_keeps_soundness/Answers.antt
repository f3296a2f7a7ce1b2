use Rattle.ax_machine.proofs.Soundness.{step_sound}
use Rattle.ax_machine.proofs.laws.a_step_keeps_soundness.Goals as goal

pub returns : goal.returns
returns c = step_sound
