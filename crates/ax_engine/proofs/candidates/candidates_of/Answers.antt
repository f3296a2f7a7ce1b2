-- The documents with a term in each union of the query's plan are those that the plan leaves.
use Rattle.ax_store.specs.Store.{store_contents}
use Rattle.ax_engine.proofs.Choosing.{found_by}
use Rattle.ax_engine.proofs.Looking.{nothing_wanted}
use Rattle.ax_engine.proofs.candidates.candidates_of.Goals as goal

pub returns-clause-found : goal.returns-clause-found
returns-clause-found g c = λ honest.
    found_by c.args.table.now c.args.query.now (store_contents c.args.store.now).terms c.in-Ok.unions c.in-Ok.ensures
    c.candidates_in-found.result (c.candidates_in-found.ensures.found honest)

pub returns-in_default-clause-looks : goal.returns-in_default-clause-looks
returns-in_default-clause-looks g c = nothing_wanted g.C.PageCache.pages _ c.args.store.now _ _ c.requires.agrees
