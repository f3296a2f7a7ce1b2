use Rattle.ax_skips.proofs.Silence.{silent_unless_candidate}
use Rattle.ax_skips.proofs.laws.those_without_a_candidate_are_silent.Goals as goal

pub returns : goal.returns
returns c = λ query table unions container set entry over there out.
    silent_unless_candidate query table unions container set over
    c.a_document_without_a_term_in_each_union_has_no_rows.ensures entry there out
