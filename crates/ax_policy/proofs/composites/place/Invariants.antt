-- The composites so far stand before the one that is put.
use Rattle.std.proofs.Common.{◌≡◌, ◌++◌, drop, take}
use Rattle.ax_policy.specs.Composites.{with_composite}
use Rattle.ax_policy.proofs.composites.place.Given as goal

abbrev pub invariant-loop-at : goal.invariant-loop-at
invariant-loop-at l =
    take l.at l.ordered ++ with_composite (drop l.at l.ordered) l.composite
    ≡ with_composite l.ordered l.composite
