-- The ledger is that of the blank.
use Rattle.ax_store_tests.proofs.tests.a_document_is_there_again.Given as goal

abbrev pub ghosts-reads_document : goal.ghosts-reads_document
ghosts-reads_document g a = record { name = a.blank.name; parts = a.blank.parts }
