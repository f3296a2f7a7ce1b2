-- The least rows are those in which OFFSET and LIMIT choose.
use Rattle.ax_rows.proofs.LeastKept.{chosen_of}
use Rattle.ax_rows.proofs.least.LeastRows.finish.Goals as goal

pub returns : goal.returns
returns c = λ orders most rows room holds.
    chosen_of orders most c.args.skip c.args.limit rows _ _ _ room
    (c.in_ok-into_least.ensures orders most rows holds) c.in_ok-rows.ensures c.chosen.ensures
