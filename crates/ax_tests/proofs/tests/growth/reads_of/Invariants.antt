-- The ledger is that of the blank.
use Rattle.ax_tests.proofs.tests.growth.reads_of.Given as goal

abbrev pub ghosts-reads_after : goal.ghosts-reads_after
ghosts-reads_after a = record { name = a.blank.name; parts = a.blank.parts }
