-- The ledger is that of the blank.
use Rattle.ax_base.proofs.tests.steps_take_no_bytes.Given as goal

abbrev pub ghosts-counted_from_zero : goal.ghosts-counted_from_zero
ghosts-counted_from_zero g a = record { name = a.blank.name; parts = a.blank.parts }
