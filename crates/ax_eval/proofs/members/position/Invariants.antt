-- None so far has the name.
use Rattle.std.proofs.Common.{◌≡◌, ◌++◌, take, drop}
use Rattle.ax_mean.specs.Building.{without_member}
use Rattle.ax_eval.proofs.members.position.Given as goal

abbrev pub invariant-loop-at : goal.invariant-loop-at
invariant-loop-at l =
    take l.at l.members ++ without_member l.name (drop l.at l.members)
    ≡ without_member l.name l.members
