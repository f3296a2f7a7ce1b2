use Rattle.std.proofs.Common.{None, sym, subst}
use Rattle.ax_store.specs.Store.{store_contents}
use Rattle.ax_candidates.specs.Meeting.{AreMet, IsAsked}
use Rattle.ax_candidates.proofs.Shared.{first_asked, first_met}
use Rattle.ax_candidates.proofs.meeting.first_found.Goals as goal

pub returns-in-Ok-clause-numbers : goal.returns-in-Ok-clause-numbers
returns-in-Ok-clause-numbers g c = λ told set is.
    subst (AreMet None c.args.ranges.now set) (sym c.from_vec.ensures)
    (first_met c.args.ranges.now set c.in-Ok.numbers.items (c.in-Ok.ensures.numbers told set is))

pub returns-in-Ok-clause-asked : goal.returns-in-Ok-clause-asked
returns-in-Ok-clause-asked g c = λ told.
    let terms = (store_contents c.args.store.now).terms in
    subst (IsAsked None c.args.ranges.now terms) (sym c.from_vec.ensures)
    (first_asked c.args.ranges.now terms c.in-Ok.numbers.items (c.in-Ok.ensures.met told) (c.in-Ok.ensures.all told))
