use Rattle.ax_excerpt.proofs.SameRows.{same_rows}
use Rattle.ax_excerpt.proofs.laws.enough_gives_the_same_rows.Goals as goal

pub returns : goal.returns
returns c = λ excerpt query number tree h. same_rows excerpt query number tree h
