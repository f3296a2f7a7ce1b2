use Rattle.ax_needs_laws.proofs.Just.{just_in_use, now_taken}
use Rattle.ax_needs_laws.proofs.laws.an_agreeing_table_has_just_the_policies_in_use.Goals as goal

pub returns-clause-just_in_use : goal.returns-clause-just_in_use
returns-clause-just_in_use c = λ honest table contents container trusted agrees hold.
    just_in_use honest trusted table contents container agrees hold

pub returns-clause-now_taken : goal.returns-clause-now_taken
returns-clause-now_taken c = λ honest table contents container trusted few agrees hold.
    now_taken honest trusted table contents container agrees hold few
