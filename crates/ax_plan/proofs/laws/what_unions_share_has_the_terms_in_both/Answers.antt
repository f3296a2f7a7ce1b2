use Rattle.ax_plan.proofs.SharedRanges.{shared_is}
use Rattle.ax_plan.proofs.laws.what_unions_share_has_the_terms_in_both.Goals as goal

pub returns : goal.returns
returns c = shared_is
