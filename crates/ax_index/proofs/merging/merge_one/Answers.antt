use Rattle.std.proofs.Common.{◌∙◌, sym}
use Rattle.ax_store.specs.Store.{store_contents}
use Rattle.ax_index.proofs.MergingLemmas.{step_by, step_none}
use Rattle.ax_index.proofs.merging.merge_one.Goals as goal

pub returns-then-not-has_deltas-clause-step : goal.returns-then-not-has_deltas-clause-step
returns-then-not-has_deltas-clause-step g c = λ merged old at behind is.
    step_none c.args.page at (store_contents c.args.store.now).terms merged c.args.next.now old _ behind is
    (sym c.has_deltas.ensures ∙ c.if-not-has_deltas.true)

pub returns-clause-step : goal.returns-clause-step
returns-clause-step g c = λ merged old at behind is.
    step_by c.merge_whole.result c.args.page at (store_contents c.args.store.now).terms merged c.args.next.now c.merge_whole.new.next old _ _ behind is
    (sym c.has_deltas.ensures
    ∙ c.if-not-has_deltas.false) c.merge_whole.ensures.merged c.merge_whole.ensures.left c.merge_whole.ensures.stuck c.merge_whole.ensures.met
