use Rattle.ax_machine.proofs.Runs.{lines_of-append, after-append, texts-append, text_of-append}
use Rattle.ax_machine.proofs.laws.runs_join.Goals as goal

pub returns-clause-lines : goal.returns-clause-lines
returns-clause-lines c = lines_of-append

pub returns-clause-after : goal.returns-clause-after
returns-clause-after c = after-append

pub returns-clause-texts : goal.returns-clause-texts
returns-clause-texts c = texts-append

pub returns-clause-text : goal.returns-clause-text
returns-clause-text c = text_of-append
