use Rattle.ax_terms.proofs.SameCounts.{same_counts, same_terms}
use Rattle.ax_terms.proofs.laws.same_leaves_have_the_same_terms.Goals as goal

pub returns : goal.returns
returns c = record { terms = same_terms; counts = same_counts }
