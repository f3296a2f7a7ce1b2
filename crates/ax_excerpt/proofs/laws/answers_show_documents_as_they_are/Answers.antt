use Rattle.ax_excerpt.proofs.ShownAnswers.{shown_answer}
use Rattle.ax_excerpt.proofs.laws.answers_show_documents_as_they_are.Goals as goal

pub returns : goal.returns
returns c = λ excerpt query entries is enough rise. shown_answer excerpt query entries is enough rise
