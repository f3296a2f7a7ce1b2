use Rattle.ax_table.specs.Filling.{AreApartBelow}
use Rattle.ax_table.proofs.apart.twin_in.Given as goal

-- none of the numbers before this one is a twin
abbrev pub invariant-loop-number : goal.invariant-loop-number
invariant-loop-number l = AreApartBelow l.table l.number
