-- No name before those that are left stands twice.
use Rattle.std.proofs.Common.{◌≡◌, length}
use Rattle.ax_grammar.specs.Scope.{are_distinct}
use Rattle.ax_scope.proofs.aliases.are_distinct.Given as goal

abbrev pub invariant-loop-rest : goal.invariant-loop-rest
invariant-loop-rest l = are_distinct l.rest ≡ are_distinct l.names

abbrev pub decreases-loop-rest : goal.decreases-loop-rest
decreases-loop-rest l = length l.rest
