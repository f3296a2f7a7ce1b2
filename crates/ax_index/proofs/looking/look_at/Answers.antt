use Rattle.ax_index.proofs.Unmoved.{read_still, told_delta}
use Rattle.ax_store.specs.Store.{store_contents}
use Rattle.ax_index.proofs.GrammarLemmas.{met_delta}
use Rattle.ax_index.proofs.looking.look_at.Goals as goal

pub returns-in-None-clause-told : goal.returns-in-None-clause-told
returns-in-None-clause-told g c = λ honest.
    told_delta c.args.store.now _ c.args.page c.args.i c.damaged_at.result c.payload_in.result.now c.in-Ok.ensures.reads.same c.requires.part c.requires.delta
    (c.payload_in.ensures _ (read_still _ _ _ _ _ c.in-Ok.ensures.slot (c.in-Ok.ensures.read honest)))
    c.in-None.ensures.none c.damaged_at.ensures

pub returns-in-Some-clause-met : goal.returns-in-Some-clause-met
returns-in-Some-clause-met g c = λ honest.
    met_delta (store_contents c.args.store.now).terms c.args.page c.args.i c.payload_in.result.now
    (c.payload_in.ensures _ (read_still _ _ _ _ _ c.in-Ok.ensures.slot (c.in-Ok.ensures.read honest)))
    c.in-Some.ensures.met
