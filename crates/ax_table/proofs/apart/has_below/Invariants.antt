use Rattle.ax_table.specs.Filling.{HasNoneBelow}
use Rattle.ax_table.proofs.apart.has_below.Given as goal

-- none of the numbers before this one has the text
abbrev pub invariant-loop-other : goal.invariant-loop-other
invariant-loop-other l = HasNoneBelow l.table l.text l.other
