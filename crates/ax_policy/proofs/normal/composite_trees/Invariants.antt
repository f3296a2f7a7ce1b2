-- The trees so far, and those of the composites that are left.
use Rattle.std.proofs.Common.{◌≡◌, ◌++◌, drop, map}
use Rattle.ax_policy.specs.Composites.{composite_tree}
use Rattle.ax_policy.proofs.normal.composite_trees.Given as goal

abbrev pub invariant-loop-composite : goal.invariant-loop-composite
invariant-loop-composite l =
    l.trees.items ++ map composite_tree (drop l.composite-index l.composites)
    ≡ map composite_tree l.composites
