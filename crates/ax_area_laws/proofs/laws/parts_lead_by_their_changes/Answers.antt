use Rattle.ax_area_laws.proofs.Rising.{by_changes, parts_alike}
use Rattle.ax_area_laws.proofs.laws.parts_lead_by_their_changes.Goals as goal

pub returns-clause-changes : goal.returns-clause-changes
returns-clause-changes c = by_changes

pub returns-clause-alike : goal.returns-clause-alike
returns-clause-alike c = parts_alike
