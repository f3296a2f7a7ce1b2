use Rattle.std.proofs.Common.{sym, ◌∙◌, List}
use Rattle.ax_pair.specs.declared.pair.Pair.{Pair}
use Rattle.ax_pairs.specs.PagePairs.{IsBase}
use Rattle.ax_index.proofs.Unmoved.{read_still, told_base}
use Rattle.ax_store.specs.Store.{store_contents}
use Rattle.ax_index.proofs.GrammarLemmas.{met_base, no_base}
use Rattle.ax_index.proofs.folding.base_pairs.Goals as goal

pub returns-in-Ok-None-clause-told : goal.returns-in-Ok-None-clause-told
returns-in-Ok-None-clause-told g c = λ honest.
    let none : (base : List Pair) × IsBase c.payload_in.result.now base → ⊥ = rw c.in-Ok-None.field-0-is at c.in-Ok-None.ensures.rise in
    told_base c.args.store.now _ c.args.page c.damaged_at.result c.payload_in.result.now c.in-Ok.ensures.reads.same
    (sym c.has_base.ensures ∙ c.if-not-has_base.false)
    (c.payload_in.ensures _ (read_still _ _ _ _ _ c.in-Ok.ensures.slot (c.in-Ok.ensures.read honest)))
    none c.damaged_at.ensures

pub returns-then-not-has_base-clause-met : goal.returns-then-not-has_base-clause-met
returns-then-not-has_base-clause-met g c = λ honest. no_base _ (sym c.has_base.ensures ∙ c.if-not-has_base.true)

pub returns-in-Ok-Some-clause-met : goal.returns-in-Ok-Some-clause-met
returns-in-Ok-Some-clause-met g c = λ honest.
    let met : (base : List Pair) × IsBase c.payload_in.result.now base = rw c.in-Ok-Some.field-0-is at c.in-Ok-Some.ensures.met in
    met_base (store_contents c.args.store.now).terms c.args.page c.payload_in.result.now (sym c.has_base.ensures ∙ c.if-not-has_base.false)
    (c.payload_in.ensures _ (read_still _ _ _ _ _ c.in-Ok.ensures.slot (c.in-Ok.ensures.read honest)))
    met
