-- The ledger is that of the blank.
use Rattle.axis.proofs.serve.Given as goal

abbrev pub ghosts-run_here : goal.ghosts-run_here
ghosts-run_here a = record { name = a.blank.name; parts = a.blank.parts }
