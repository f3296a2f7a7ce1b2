use Rattle.ax_skips.proofs.ByNumber.{document_held, none_held}
use Rattle.ax_skips.proofs.laws.a_number_has_its_document.Goals as goal

pub returns-clause-held : goal.returns-clause-held
returns-clause-held c = document_held

pub returns-clause-none : goal.returns-clause-none
returns-clause-none c = none_held
