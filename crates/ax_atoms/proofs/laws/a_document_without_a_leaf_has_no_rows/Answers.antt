use Rattle.ax_atoms.proofs.Rows.{silent}
use Rattle.ax_atoms.proofs.laws.a_document_without_a_leaf_has_no_rows.Goals as goal

pub returns : goal.returns
returns c = silent
