-- A text that is none of a document is damage.
use Rattle.std.proofs.Common.{Err, sym, ap, subst, ◌∙◌}
use Rattle.std.specs.Prelude.{IsTrue}
use Rattle.std.specs.FinMap as map
use Rattle.ax_answer_text.specs.Parts.{IsTakenWhole}
use Rattle.ax_answer_text.proofs.TakenWhole.{taken_whole}
use Rattle.ax_image.specs.Readable.{newest}
use Rattle.ax_image_grammar.specs.Payloads.{IsDocumentText}
use Rattle.ax_store.specs.Kept.{Kept}
use Rattle.ax_store.specs.ReadAhead.{ahead_text, IsAhead}
use Rattle.ax_engine.specs.StoreSays.{kept_says}
use Rattle.ax_engine.proofs.Damaging.{of_document, text_ahead, text_fails}
use Rattle.ax_engine.proofs.querying.add_document.Goals as goal

pub returns-in-Err-add-clause-scans : goal.returns-in-Err-add-clause-scans
returns-in-Err-add-clause-scans g c =
    let same = c.in-Ok-true.ensures.scans.same.pages in
    text_fails g.C.PageCache.pages _ c.in-Err-add.fault c.text_fault.result _ c.fetch_document.new.store c.fetch_document.new.ahead _ _ _ _
    c.args.number (ahead_text c.fetch_document.new.ahead) c.in-Ok-true.field-0 c.in-Ok-true.ensures.scans
    (subst (λ (kept : Kept). IsTrue (map.contains_key (kept_says kept).documents c.args.number)) (sym same)
    (sym c.in-Ok-true.ensures.found ∙ c.in-Ok-true.field-0-test))
    (λ honest. subst (λ (kept : Kept). IsAhead (map.get (kept_says kept).documents c.args.number) c.in-Ok-true.field-0
    (ahead_text c.fetch_document.new.ahead)) (sym same) (c.in-Ok-true.ensures.text honest))
    (λ tree is storable outside. c.add.ensures.inside tree (c.text.ensures ∙ is) storable
    (c.in-Err-add.is ∙ ap (λ why. Err why) outside))
    c.text_fault.ensures.memory c.text_fault.ensures.outside

pub returns-in-Ok-clause-outside : goal.returns-in-Ok-clause-outside
returns-in-Ok-clause-outside g c = λ honest text is query asked taken.
    let same = c.text.ensures ∙ text_ahead _ _ _ _ (c.in-Ok-true.ensures.text honest) is in
    subst (IsDocumentText newest) same
    (of_document _ (taken_whole c.args.answer.now query _ asked c.in-Ok.ensures.outside c.in-Ok.ensures.kept
    (subst (IsTakenWhole query) (sym same) taken)))
