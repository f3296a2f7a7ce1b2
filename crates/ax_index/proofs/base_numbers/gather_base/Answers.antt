use Rattle.std.proofs.Common.{sym, ◌∙◌}
use Rattle.ax_index.proofs.Unmoved.{read_still, told_base}
use Rattle.ax_store.specs.Store.{store_contents}
use Rattle.ax_index.proofs.GrammarLemmas.{met_base, no_base}
use Rattle.ax_index.proofs.base_numbers.gather_base.Goals as goal

pub returns-in-Ok-false-clause-told : goal.returns-in-Ok-false-clause-told
returns-in-Ok-false-clause-told g c = λ honest.
    told_base c.args.store.now _ c.args.page c.damaged_at.result c.payload_in.result.now c.in-Ok.ensures.reads.same
    (sym c.has_base.ensures ∙ c.if-not-has_base.false)
    (c.payload_in.ensures _ (read_still _ _ _ _ _ c.in-Ok.ensures.slot (c.in-Ok.ensures.read honest)))
    (c.in-Ok-false.ensures.none c.in-Ok-false.field-0-test) c.damaged_at.ensures

pub returns-then-not-has_base-clause-met : goal.returns-then-not-has_base-clause-met
returns-then-not-has_base-clause-met g c = λ honest. no_base _ (sym c.has_base.ensures ∙ c.if-not-has_base.true)

pub returns-in-Ok-true-clause-met : goal.returns-in-Ok-true-clause-met
returns-in-Ok-true-clause-met g c = λ honest.
    met_base (store_contents c.args.store.now).terms c.args.page c.payload_in.result.now (sym c.has_base.ensures ∙ c.if-not-has_base.false)
    (c.payload_in.ensures _ (read_still _ _ _ _ _ c.in-Ok.ensures.slot (c.in-Ok.ensures.read honest)))
    (c.in-Ok-true.ensures.met c.in-Ok-true.field-0-test)
