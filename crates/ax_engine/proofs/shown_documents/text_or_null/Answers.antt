-- The text of null.
use Rattle.ax_engine.proofs.ShownTexts.{null_text}
use Rattle.ax_engine.proofs.shown_documents.text_or_null.Goals as goal

pub returns-else-is_held-clause-none : goal.returns-else-is_held-clause-none
returns-else-is_held-clause-none c = λ none. null_text
