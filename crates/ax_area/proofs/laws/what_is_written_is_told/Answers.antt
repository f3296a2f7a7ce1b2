use Rattle.ax_area.proofs.Writing.{written_tells, same_changes}
use Rattle.ax_area.proofs.laws.what_is_written_is_told.Goals as goal

pub returns-clause-bytes : goal.returns-clause-bytes
returns-clause-bytes c = written_tells

pub returns-clause-changes : goal.returns-clause-changes
returns-clause-changes c = same_changes
