-- What is left is the same exactly where the whole is.
use Rattle.std.proofs.Common.{◌≡◌, drop}
use Rattle.ax_grammar.specs.SameExprs.{all_steps_same}
use Rattle.ax_scope.proofs.same_parts.same_steps.Given as goal

abbrev pub invariant-loop-at : goal.invariant-loop-at
invariant-loop-at l =
    all_steps_same (drop l.at l.left) (drop l.at l.right) ≡ all_steps_same l.left l.right
