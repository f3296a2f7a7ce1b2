use Rattle.ax_needs_laws.proofs.Counting.{all_needed, as_many}
use Rattle.ax_needs_laws.proofs.SameCandidates.{same_candidates}
use Rattle.ax_needs_laws.proofs.laws.a_query_needs_just_its_candidates.Goals as goal

pub returns-clause-as_many : goal.returns-clause-as_many
returns-clause-as_many c = λ query table unions container set numbers over just now read some are.
    as_many query table unions container set over
    (same_candidates table container read over.used just now query unions over.planned over.sound) numbers are some

pub returns-clause-all_needed : goal.returns-clause-all_needed
returns-clause-all_needed c = λ query table unions container set over just now read none.
    all_needed query table unions container set over
    (same_candidates table container read over.used just now query unions over.planned over.sound) none
