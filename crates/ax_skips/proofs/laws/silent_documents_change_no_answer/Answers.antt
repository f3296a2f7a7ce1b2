use Rattle.ax_skips.proofs.Alike.{same_answer}
use Rattle.ax_skips.proofs.laws.silent_documents_change_no_answer.Goals as goal

pub returns : goal.returns
returns c = same_answer
