-- The names that are left differ from those before them just where all names do.
use Rattle.std.proofs.Common.{◌≡◌, drop}
use Rattle.ax_scope.specs.Neighbours.{differ_from, neighbours_differ}
use Rattle.ax_scope.proofs.distinct.neighbours_differ.Given as goal

abbrev pub invariant-loop-name : goal.invariant-loop-name
invariant-loop-name l =
    differ_from l.last (drop l.name-index l.rest) ≡ neighbours_differ l.names
