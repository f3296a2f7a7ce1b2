use Rattle.std.proofs.Common.{map}
use Rattle.ax_pair.proofs.PairOrder.{the_pair}
use Rattle.ax_store.specs.TermRows.{page_in}
use Rattle.ax_store.proofs.TermOrder.{page_found}
use Rattle.ax_store.proofs.term_pages.page_among.Goals as goal

pub returns : goal.returns
returns c =
    page_found c.args.order.now (map page_in c.args.rows.now) c.requires (the_pair c.args.term.now c.args.number) c.count_up_to-behind.result
    c.count_up_to-behind.ensures
