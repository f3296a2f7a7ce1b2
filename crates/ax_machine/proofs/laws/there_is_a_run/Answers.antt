use Rattle.ax_machine.proofs.Runs as runs
use Rattle.ax_machine.proofs.laws.there_is_a_run.Goals as goal

pub returns : goal.returns
returns c = runs.there_is_a_run
