use Rattle.ax_plan.proofs.Passing.{silent_without}
use Rattle.ax_plan.proofs.laws.a_document_without_a_term_in_each_union_has_no_rows.Goals as goal

pub returns : goal.returns
returns c = λ query table unions policy given are used well.
    silent_without query table unions policy given are well used
