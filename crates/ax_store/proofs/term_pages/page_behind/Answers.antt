use Rattle.std.proofs.Common.{◌≡◌, map, sym, ◌∙◌}
use Rattle.std.specs.List.{slice_get}
use Rattle.ax_store.specs.TermRows.{page_in}
use Rattle.ax_store.proofs.TermOrder.{next_at, last_at, copied_is}
use Rattle.ax_store.proofs.term_pages.page_behind.Goals as goal

pub returns-clause-found : goal.returns-clause-found
returns-clause-found c =
    let there : c.copied.result ≡ slice_get c.args.order.now c.count_up_to-behind.result =
    c.copied.ensures ∙ copied_is c.get.result c.args.order.now c.count_up_to-behind.result c.get.ensures.lookup.1 (sym c.get.ensures.lookup.0)
    in
    next_at c.args.order.now (map page_in c.args.rows.now) c.requires.order c.args.page c.count_up_to-behind.result c.low_at-number.result.1
    c.low_at-number.result.0.now
    c.low_at-number.ensures.term c.low_at-number.ensures.number c.count_up_to-behind.ensures c.copied.result there

pub returns-clause-none : goal.returns-clause-none
returns-clause-none c =
    let there : c.copied.result ≡ slice_get c.args.order.now c.count_up_to-behind.result =
    c.copied.ensures ∙ copied_is c.get.result c.args.order.now c.count_up_to-behind.result c.get.ensures.lookup.1 (sym c.get.ensures.lookup.0)
    in
    last_at c.args.order.now (map page_in c.args.rows.now) c.requires.order c.args.page c.count_up_to-behind.result c.low_at-number.result.1
    c.low_at-number.result.0.now
    c.low_at-number.ensures.term c.low_at-number.ensures.number c.count_up_to-behind.ensures c.copied.result there
