use Rattle.ax_delta.proofs.SameChanges.{said_alike}
use Rattle.ax_delta.proofs.laws.term_changes_say_what_changes_say.Goals as goal

pub returns : goal.returns
returns c = said_alike
