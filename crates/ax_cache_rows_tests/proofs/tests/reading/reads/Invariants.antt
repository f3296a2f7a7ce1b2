-- The ledger is that of the blank.
use Rattle.ax_cache_rows_tests.proofs.tests.reading.reads.Given as goal

abbrev pub ghosts-reads_by : goal.ghosts-reads_by
ghosts-reads_by g a = record { name = a.blank.name; parts = a.blank.parts }
