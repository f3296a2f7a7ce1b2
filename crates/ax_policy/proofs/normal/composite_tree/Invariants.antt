-- The trees so far, and those of the parts that are left.
use Rattle.std.proofs.Common.{◌≡◌, ◌++◌, drop, map}
use Rattle.ax_policy.specs.Composites.{part_tree}
use Rattle.ax_policy.proofs.normal.composite_tree.Given as goal

abbrev pub invariant-loop-part : goal.invariant-loop-part
invariant-loop-part l =
    l.trees.items ++ map part_tree (drop l.part-index l.parts) ≡ map part_tree l.parts
