use Rattle.std.proofs.Common.{subst, map}
use Rattle.ax_pair.specs.declared.pair.Pair.{Pair}
use Rattle.ax_store.specs.TermRows.{page_in, IsCountUpTo}
use Rattle.ax_store.proofs.term_pages.place_of.Goals as goal

pub returns : goal.returns
returns c =
    let found = rw c.deref.ensures.value at c.count_up_to.ensures in
    subst (λ (low : Pair). IsCountUpTo low c.count_up_to.result c.args.order.now (map page_in c.args.rows.now)) c.args.base.now.low_is found
