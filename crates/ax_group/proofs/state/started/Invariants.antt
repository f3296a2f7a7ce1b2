-- The tallies so far are those of the first aggregates.
use Rattle.std.proofs.Common.{◌≡◌, take}
use Rattle.ax_group.specs.States.{started}
use Rattle.ax_group.specs.Walks.{asks_of}
use Rattle.ax_group.proofs.state.started.Given as goal

abbrev pub invariant-loop-one : goal.invariant-loop-one
invariant-loop-one l = l.tallies.items ≡ started (asks_of (take l.one-index l.asked)) l.scope
