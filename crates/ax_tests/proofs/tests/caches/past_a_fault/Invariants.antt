-- The ledger is that of the blank.
use Rattle.ax_tests.proofs.tests.caches.past_a_fault.Given as goal

abbrev pub ghosts-read_past_a_fault : goal.ghosts-read_past_a_fault
ghosts-read_past_a_fault a = record { name = a.blank.name; parts = a.blank.parts }
