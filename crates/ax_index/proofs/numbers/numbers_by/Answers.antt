use Rattle.ax_index.proofs.SomeRanges.{numbers_in_some}
use Rattle.ax_store.specs.Store.{store_contents}
use Rattle.ax_index.proofs.Standing.{all_in_order}
use Rattle.ax_index.proofs.numbers.numbers_by.Goals as goal

pub returns-clause-numbers : goal.returns-clause-numbers
returns-clause-numbers g c = λ told set is.
    numbers_in_some c.args.ranges.now set c.in-Ok.numbers.items _ c.put_in_order.ensures.rising c.put_in_order.ensures.same
    (c.in-Ok.ensures.numbers told set is)

pub returns-clause-all : goal.returns-clause-all
returns-clause-all g c = λ told.
    all_in_order c.args.ranges.now (store_contents c.args.store.now).terms _ _ c.put_in_order.ensures.same (c.in-Ok.ensures.all told)
