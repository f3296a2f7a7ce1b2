use Rattle.ax_container.proofs.Moving.{bare_after_step, left_after_step}
use Rattle.ax_container.proofs.laws.a_step_moves_documents.Goals as goal

pub returns-clause-left : goal.returns-clause-left
returns-clause-left c = λ before count. left_after_step before count

pub returns-clause-kept : goal.returns-clause-kept
returns-clause-kept c = λ before count. bare_after_step before count
