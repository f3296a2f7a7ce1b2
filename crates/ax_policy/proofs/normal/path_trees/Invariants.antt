-- The trees so far, and those of the rules that are left.
use Rattle.std.proofs.Common.{◌≡◌, ◌++◌, drop}
use Rattle.ax_policy.specs.Normal as spec
use Rattle.ax_policy.proofs.normal.path_trees.Given as goal

abbrev pub invariant-loop-rule : goal.invariant-loop-rule
invariant-loop-rule l =
    l.trees.items ++ spec.path_trees l.included (drop l.rule-index l.rules)
    ≡ spec.path_trees l.included l.rules
