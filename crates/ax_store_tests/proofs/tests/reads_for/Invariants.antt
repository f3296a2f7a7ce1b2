-- The ledger is that of the blank.
use Rattle.ax_store_tests.proofs.tests.reads_for.Given as goal

abbrev pub ghosts-opens_and_fetches : goal.ghosts-opens_and_fetches
ghosts-opens_and_fetches g a = record { name = a.blank.name; parts = a.blank.parts }
