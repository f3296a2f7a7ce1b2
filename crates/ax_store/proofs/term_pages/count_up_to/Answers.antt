-- The closure tells whether the low pair of a page is not after the pair.
use Rattle.std.proofs.Common.{rules, map}
use Rattle.std.specs.Ordering.{is_le}
use Rattle.std.proofs.lemmas.Fn.{always_returns_same}
use Rattle.ax_pair.specs.Order.{pair_cmp}
use Rattle.ax_pair.proofs.PairOrder.{the_pair}
use Rattle.ax_pages.specs.TermPages.{low_pair}
use Rattle.ax_store.specs.TermRows.{page_in}
use Rattle.ax_store.proofs.TermOrder.{counted}
use Rattle.ax_store.proofs.term_pages.count_up_to.Goals as goal

pub returns : goal.returns
returns c =
    counted c.args.order.now (map page_in c.args.rows.now) (the_pair c.args.term.now c.args.number) c.partition_point.result c.requires
    c.partition_point.ensures.bound
    (c.partition_point.ensures.partitioned
    (λ page. is_le (pair_cmp (low_pair page (map page_in c.args.rows.now)) (the_pair c.args.term.now c.args.number)))
    (always_returns_same _ _ _ (λ a r f k. search rules)))
