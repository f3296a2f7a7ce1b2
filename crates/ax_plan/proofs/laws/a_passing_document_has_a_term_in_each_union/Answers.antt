use Rattle.ax_plan.proofs.Passing.{passing_in_each}
use Rattle.ax_plan.proofs.laws.a_passing_document_has_a_term_in_each_union.Goals as goal

pub returns : goal.returns
returns c = λ query table unions policy given alias env are used well.
    passing_in_each query table unions policy given are well used alias env
