use Rattle.ax_needs.proofs.Terms.{has_told, term_told}
use Rattle.ax_needs.proofs.laws.a_document_has_a_term_where_it_is_told.Goals as goal

pub returns : goal.returns
returns c = λ policy given ranges. (term_told policy given ranges, has_told policy given ranges)
