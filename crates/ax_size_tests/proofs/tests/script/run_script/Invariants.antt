-- The ledger is that of the blank.
use Rattle.ax_size_tests.proofs.tests.script.run_script.Given as goal

abbrev pub ghosts-run_counted : goal.ghosts-run_counted
ghosts-run_counted a = record { name = a.blank.name; parts = a.blank.parts }
