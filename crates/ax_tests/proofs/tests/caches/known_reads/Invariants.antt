-- The ledger is that of the blank.
use Rattle.ax_tests.proofs.tests.caches.known_reads.Given as goal

abbrev pub ghosts-reads_of_a_known_id : goal.ghosts-reads_of_a_known_id
ghosts-reads_of_a_known_id a = record { name = a.blank.name; parts = a.blank.parts }
