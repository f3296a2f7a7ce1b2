use Rattle.ax_area.proofs.Leading.{lead_then, lead_delta, base_led}
use Rattle.ax_area.proofs.laws.changes_of_term_pages.Goals as goal

pub returns-clause-then : goal.returns-clause-then
returns-clause-then c = lead_then

pub returns-clause-delta : goal.returns-clause-delta
returns-clause-delta c = lead_delta

pub returns-clause-base : goal.returns-clause-base
returns-clause-base c = base_led
