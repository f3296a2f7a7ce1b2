use Rattle.ax_answer_text.proofs.text_answer.TextAnswer.is_done.Goals as goal
use Rattle.ax_answer_text.proofs.TextLaws.{enough_is_told}

-- of what is read of documents there are as many rows as of documents
pub returns-then-self-clause-enough : goal.returns-then-self-clause-enough
returns-then-self-clause-enough c = λ query entries answers enough.
    enough_is_told c.args.self.now c.is_done.result c.is_done.ensures.enough query entries answers enough
