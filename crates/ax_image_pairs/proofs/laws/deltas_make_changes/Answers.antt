use Rattle.ax_image_pairs.proofs.Made.{made_by_delta, made_then, none_made}
use Rattle.ax_image_pairs.proofs.laws.deltas_make_changes.Goals as goal

pub returns-clause-none : goal.returns-clause-none
returns-clause-none c = none_made

pub returns-clause-then : goal.returns-clause-then
returns-clause-then c = made_then

pub returns-clause-delta : goal.returns-clause-delta
returns-clause-delta c = made_by_delta
