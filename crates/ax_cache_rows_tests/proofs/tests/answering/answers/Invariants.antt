-- The ledger is that of the blank.
use Rattle.ax_cache_rows_tests.proofs.tests.answering.answers.Given as goal

abbrev pub ghosts-answers_by : goal.ghosts-answers_by
ghosts-answers_by g a = record { name = a.blank.name; parts = a.blank.parts }
