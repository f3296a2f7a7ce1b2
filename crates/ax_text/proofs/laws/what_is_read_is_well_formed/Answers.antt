use Rattle.ax_text.proofs.ReadTrees.{stands}
use Rattle.ax_text.proofs.laws.what_is_read_is_well_formed.Goals as goal

pub returns-clause-well_formed : goal.returns-clause-well_formed
returns-clause-well_formed c = λ bytes tree read. (stands bytes tree read).formed

pub returns-clause-nests : goal.returns-clause-nests
returns-clause-nests c = λ bytes tree read. (stands bytes tree read).shallow
