-- The ledger is that of the blank.
use Rattle.ax_answer_tests.proofs.tests.rows.rows_by.Given as goal

abbrev pub ghosts-rows_in : goal.ghosts-rows_in
ghosts-rows_in a = record { name = a.blank.name; parts = a.blank.parts }
