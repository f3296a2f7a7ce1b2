use Rattle.ax_needs.proofs.Usable.{usable_covered, usable_told}
use Rattle.ax_needs.proofs.laws.a_condition_is_usable_where_all_policies_cover_it.Goals as goal

pub returns-clause-covered : goal.returns-clause-covered
returns-clause-covered c = usable_covered

pub returns-clause-told : goal.returns-clause-told
returns-clause-told c = usable_told
