use Rattle.std.proofs.Common.{List}
use Rattle.ax_delta.specs.Changes.{TermChange}
use Rattle.ax_delta.specs.Payload.{IsDelta}
use Rattle.ax_index.proofs.Unmoved.{read_still, told_delta}
use Rattle.ax_store.specs.Store.{store_contents}
use Rattle.ax_index.proofs.GrammarLemmas.{met_delta}
use Rattle.ax_index.proofs.folding.merge_at.Goals as goal

pub returns-in-Ok-None-clause-told : goal.returns-in-Ok-None-clause-told
returns-in-Ok-None-clause-told g c = λ honest.
    let none : (changes : List TermChange) × IsDelta c.payload_in.result.now changes → ⊥ = rw c.in-Ok-None.field-0-is at c.in-Ok-None.ensures.rise in
    told_delta c.args.store.now _ c.args.page c.args.i c.damaged_at.result c.payload_in.result.now c.in-Ok.ensures.reads.same c.requires.part c.requires.delta
    (c.payload_in.ensures _ (read_still _ _ _ _ _ c.in-Ok.ensures.slot (c.in-Ok.ensures.read honest)))
    none c.damaged_at.ensures

pub returns-in-Ok-Some-clause-met : goal.returns-in-Ok-Some-clause-met
returns-in-Ok-Some-clause-met g c = λ honest.
    let met : (changes : List TermChange) × IsDelta c.payload_in.result.now changes = rw c.in-Ok-Some.field-0-is at c.in-Ok-Some.ensures.met in
    met_delta (store_contents c.args.store.now).terms c.args.page c.args.i c.payload_in.result.now
    (c.payload_in.ensures _ (read_still _ _ _ _ _ c.in-Ok.ensures.slot (c.in-Ok.ensures.read honest)))
    met
