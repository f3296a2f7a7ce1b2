-- The answer over what was read of the documents is the answer over them.
use Rattle.ax_answer_text.proofs.TextLaws.{finished}
use Rattle.ax_answer_text.proofs.text_answer.TextAnswer.finish.Goals as goal

pub returns-in-Ok : goal.returns-in-Ok
returns-in-Ok c = λ query entries answers rise.
    finished c.args.self c.in-Ok.rows.items c.in-Ok.ensures query entries answers rise
