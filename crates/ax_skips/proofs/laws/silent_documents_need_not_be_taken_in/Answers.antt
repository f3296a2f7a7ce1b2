use Rattle.ax_skips.proofs.HeldAnswers.{answers_all, answers_one_more}
use Rattle.ax_skips.proofs.laws.silent_documents_need_not_be_taken_in.Goals as goal

pub returns-clause-one : goal.returns-clause-one
returns-clause-one c = answers_one_more

pub returns-clause-all : goal.returns-clause-all
returns-clause-all c = answers_all
