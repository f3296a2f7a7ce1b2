-- The text that was read is that of the document, or none is held.
use Rattle.std.proofs.Common.{List, ℕ, ◌++◌, ap, ◌∙◌}
use Rattle.ax_machine.specs.ReplyTexts.{row_text}
use Rattle.ax_store.specs.Store.{store_contents}
use Rattle.ax_engine.proofs.ShownTexts.{row_text_is}
use Rattle.ax_engine.proofs.shown_documents.push_document.Goals as goal

pub returns-in-Ok-push_text-clause-line : goal.returns-in-Ok-push_text-clause-line
returns-in-Ok-push_text-clause-line g c = λ honest container hold.
    c.in-Ok-push_text.ensures
    ∙ ap (λ (row : List ℕ). c.args.lines.now.items ++ row_text row)
    (row_text_is (store_contents c.args.store.now) container hold c.args.number c.in-Ok.is_held _ c.text_or_null.result.now
    (c.in-Ok.ensures.text honest) c.text_or_null.ensures.held c.text_or_null.ensures.none)
