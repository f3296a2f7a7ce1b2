-- The ledger is that of the blank.
use Rattle.ax_answer_tests.proofs.tests.answered_by.Given as goal

abbrev pub ghosts-answered_in : goal.ghosts-answered_in
ghosts-answered_in a = record { name = a.blank.name; parts = a.blank.parts }
