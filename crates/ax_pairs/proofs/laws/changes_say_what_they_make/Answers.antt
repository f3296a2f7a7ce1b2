use Rattle.ax_pairs.proofs.Sets.{changes_say}
use Rattle.ax_pairs.proofs.laws.changes_say_what_they_make.Goals as goal

pub returns : goal.returns
returns c = changes_say
