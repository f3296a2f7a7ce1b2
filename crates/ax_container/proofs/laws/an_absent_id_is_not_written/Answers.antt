use Rattle.ax_container.proofs.Moving.{absent_deleted, absent_replaced}
use Rattle.ax_container.proofs.laws.an_absent_id_is_not_written.Goals as goal

pub returns-clause-replacement : goal.returns-clause-replacement
returns-clause-replacement c = λ before tree id none. absent_replaced before tree id none

pub returns-clause-deletion : goal.returns-clause-deletion
returns-clause-deletion c = λ before id none. absent_deleted before id none
