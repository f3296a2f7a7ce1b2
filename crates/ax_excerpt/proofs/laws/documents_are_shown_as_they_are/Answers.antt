use Rattle.ax_excerpt.proofs.ShownRows.{shown_rows}
use Rattle.ax_excerpt.proofs.laws.documents_are_shown_as_they_are.Goals as goal

pub returns : goal.returns
returns c = λ excerpt query number tree is enough. shown_rows excerpt query number tree is enough
