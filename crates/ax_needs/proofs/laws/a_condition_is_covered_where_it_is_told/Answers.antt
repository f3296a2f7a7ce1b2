use Rattle.ax_needs.proofs.Usable.{condition_covered, condition_told}
use Rattle.ax_needs.proofs.laws.a_condition_is_covered_where_it_is_told.Goals as goal

pub returns-clause-covered : goal.returns-clause-covered
returns-clause-covered c = condition_covered

pub returns-clause-told : goal.returns-clause-told
returns-clause-told c = condition_told
