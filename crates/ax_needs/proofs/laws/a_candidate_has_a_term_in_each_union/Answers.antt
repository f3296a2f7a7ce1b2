use Rattle.ax_needs.proofs.Terms.{candidate_told, is_candidate_where}
use Rattle.ax_needs.proofs.laws.a_candidate_has_a_term_in_each_union.Goals as goal

pub returns : goal.returns
returns c = λ unions entry. (candidate_told unions entry, is_candidate_where unions entry)
