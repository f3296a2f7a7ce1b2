-- The values so far are those of the first arguments.
use Rattle.std.proofs.Common.{◌≡◌, take}
use Rattle.ax_group.specs.States.{arguments_in}
use Rattle.ax_group.specs.Walks.{asks_of}
use Rattle.ax_group.proofs.arguments.arguments_in.Given as goal

abbrev pub invariant-loop-one : goal.invariant-loop-one
invariant-loop-one l = l.values.items ≡ arguments_in (asks_of (take l.one-index l.asked)) l.scope
