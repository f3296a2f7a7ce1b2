use Rattle.ax_machine.proofs.Soundness.{run_sound}
use Rattle.ax_machine.proofs.laws.a_run_keeps_soundness.Goals as goal

pub returns : goal.returns
returns c = run_sound
