-- Where one of the conditions made so far fails, one of all the expressions is not true.
use Rattle.ax_sieve.proofs.Conjunctions.{Tells}
use Rattle.ax_sieve.proofs.conditions.conditions_of.Given as goal

abbrev pub invariant-loop-operand : goal.invariant-loop-operand
invariant-loop-operand l = Tells l.alias l.operands l.conditions.items
