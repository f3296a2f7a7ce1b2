-- Among the documents over which the rows were found none is met, and so over these rows.
use Rattle.ax_store.specs.Store.{store_contents}
use Rattle.ax_engine.specs.Candidates.{IsAmong}
use Rattle.ax_engine.proofs.Walking.{rows_met}
use Rattle.ax_engine.proofs.querying.rows_of_query.Goals as goal

pub returns-in-Ok-rows_shown-clause-met : goal.returns-in-Ok-rows_shown-clause-met
returns-in-Ok-rows_shown-clause-met g c = λ honest rising.
    rows_met (IsAmong c.args.candidates.now) c.args.query (store_contents c.args.store.now) (c.in-Ok-rows.ensures.met honest rising)
