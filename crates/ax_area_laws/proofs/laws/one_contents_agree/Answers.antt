use Rattle.ax_area_laws.proofs.Rising.{risen_agrees, is_risen}
use Rattle.ax_area_laws.proofs.laws.one_contents_agree.Goals as goal

pub returns-clause-risen : goal.returns-clause-risen
returns-clause-risen c = risen_agrees

pub returns-clause-alone : goal.returns-clause-alone
returns-clause-alone c = is_risen
