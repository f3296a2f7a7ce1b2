use Rattle.ax_pages.specs.TermPages.{low_pair}
use Rattle.ax_store.specs.Store.{store_contents}
use Rattle.ax_index.proofs.RunLemmas.{as_pair, told_before, told_next, told_last}
use Rattle.ax_index.proofs.runs.belongs.Goals as goal

pub returns-then-is_before : goal.returns-then-is_before
returns-then-is_before g c =
    let pages = (store_contents c.args.store.now).terms in
    told_before pages c.args.page c.args.pair.now _ c.is_before.result
    (as_pair (low_pair c.args.page pages) _ _ c.low-low_number.ensures.term c.low-low_number.ensures.number) c.is_before.ensures c.if-is_before.true

pub returns-in-Some : goal.returns-in-Some
returns-in-Some g c =
    let pages = (store_contents c.args.store.now).terms in
    told_next pages c.args.page c.in-Some.next c.args.pair.now _ _ c.is_before.result c.is_before-in-Some.result c.requires
    (as_pair (low_pair c.args.page pages) _ _ c.low-low_number.ensures.term c.low-low_number.ensures.number) c.is_before.ensures c.if-is_before.false
    c.in-Some.ensures.found
    (as_pair (low_pair c.in-Some.next pages) _ _ c.low-next_number.ensures.term c.low-next_number.ensures.number) c.is_before-in-Some.ensures

pub returns-in-None : goal.returns-in-None
returns-in-None g c =
    let pages = (store_contents c.args.store.now).terms in
    told_last pages c.args.page c.args.pair.now _ c.is_before.result c.requires
    (as_pair (low_pair c.args.page pages) _ _ c.low-low_number.ensures.term c.low-low_number.ensures.number) c.is_before.ensures c.if-is_before.false
    c.in-None.ensures.none
