use Rattle.ax_skips.proofs.InUse.{all_in_use, none_past}
use Rattle.ax_skips.proofs.laws.an_agreeing_table_has_all_policies_in_use.Goals as goal

pub returns-clause-used : goal.returns-clause-used
returns-clause-used c = λ honest table contents container trusted few agrees hold.
    all_in_use honest trusted table contents few agrees container hold

pub returns-clause-numbers : goal.returns-clause-numbers
returns-clause-numbers c = none_past
