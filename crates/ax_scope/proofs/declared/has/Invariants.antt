-- What is left has the name just where all have it.
use Rattle.std.proofs.Common.{◌≡◌, drop}
use Rattle.ax_grammar.specs.Parts.{has}
use Rattle.ax_scope.proofs.declared.has.Given as goal

abbrev pub invariant-loop-other : goal.invariant-loop-other
invariant-loop-other l = has (drop l.other-index l.names) l.name ≡ has l.names l.name
