-- The ledger is that of the blank.
use Rattle.ax_transform_tests.proofs.tests.a_policy_is_there_again.Given as goal

abbrev pub ghosts-sets : goal.ghosts-sets
ghosts-sets g a = record { name = a.blank.name; parts = a.blank.parts }

abbrev pub ghosts-is_now : goal.ghosts-is_now
ghosts-is_now g a = record { name = a.blank.name; parts = a.blank.parts }
