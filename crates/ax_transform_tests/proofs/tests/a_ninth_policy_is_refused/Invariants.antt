-- The ledger is that of the blank.
use Rattle.ax_transform_tests.proofs.tests.a_ninth_policy_is_refused.Given as goal

abbrev pub ghosts-refuses : goal.ghosts-refuses
ghosts-refuses g a = record { name = a.blank.name; parts = a.blank.parts }

abbrev pub ghosts-is_now : goal.ghosts-is_now
ghosts-is_now g a = record { name = a.blank.name; parts = a.blank.parts }
