-- The values so far are those of the first expressions.
use Rattle.std.proofs.Common.{◌≡◌, map, take}
use Rattle.ax_mean.specs.Meaning.{meaning}
use Rattle.ax_group.proofs.arguments.group_values.Given as goal

abbrev pub invariant-loop-expr : goal.invariant-loop-expr
invariant-loop-expr l = l.values.items ≡ map (meaning l.scope) (take l.expr-index l.groups)
