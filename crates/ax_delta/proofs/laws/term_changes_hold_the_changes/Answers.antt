use Rattle.ax_delta.proofs.SameChanges.{same_changes}
use Rattle.ax_delta.proofs.laws.term_changes_hold_the_changes.Goals as goal

pub returns : goal.returns
returns c = same_changes
