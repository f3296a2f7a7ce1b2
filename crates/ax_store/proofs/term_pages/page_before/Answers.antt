use Rattle.std.proofs.Common.{arith, map}
use Rattle.std.proofs.lemmas.List.{length-map}
use Rattle.ax_store.specs.TermRows.{page_in}
use Rattle.ax_store.proofs.PageBeforeLemmas.{before_at, first_at}
use Rattle.ax_store.proofs.term_pages.page_before.Goals as goal

pub returns-then-up_to-lt2-clause-none : goal.returns-then-up_to-lt2-clause-none
returns-then-up_to-lt2-clause-none c =
    first_at c.args.order.now (map page_in c.args.rows.now) c.requires.order c.args.page c.count_up_to-up_to.result c.low_at-number.result.1
    c.low_at-number.result.0.now
    (omega (arith, length-map c.args.rows.now page_in, c.requires.there))
    c.low_at-number.ensures.term c.low_at-number.ensures.number c.count_up_to-up_to.ensures c.if-up_to-lt2.true

pub returns-clause-found : goal.returns-clause-found
returns-clause-found c =
    before_at c.args.order.now (map page_in c.args.rows.now) c.requires.order c.args.page c.count_up_to-up_to.result
    c.low_at-number.result.1 c.low_at-number.result.0.now
    (omega (arith, length-map c.args.rows.now page_in, c.requires.there))
    c.low_at-number.ensures.term c.low_at-number.ensures.number c.count_up_to-up_to.ensures (omega (arith, c.if-up_to-lt2.false))
