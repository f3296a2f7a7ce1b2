use Rattle.std.proofs.Common.{inr}
use Rattle.ax_store.specs.Store.{store_contents}
use Rattle.ax_candidates.proofs.Shared.{both_asked, both_met}
use Rattle.ax_candidates.proofs.meeting.met_further.Goals as goal

pub returns-in-Ok-in_both-clause-numbers : goal.returns-in-Ok-in_both-clause-numbers
returns-in-Ok-in_both-clause-numbers g c = λ told set is.
    both_met c.args.found c.in-Ok.others.items c.in-Ok-in_both.both c.args.ranges.now set c.in-Ok-in_both.ensures.both
    (c.in-Ok.ensures.numbers told set is)

pub returns-in-Ok-in_both-clause-asked : goal.returns-in-Ok-in_both-clause-asked
returns-in-Ok-in_both-clause-asked g c = λ told.
    inr (both_asked c.args.found c.in-Ok.others.items c.in-Ok-in_both.both c.args.ranges.now (store_contents c.args.store.now).terms
    c.in-Ok-in_both.ensures.both (c.in-Ok.ensures.met told) (c.in-Ok.ensures.all told))
