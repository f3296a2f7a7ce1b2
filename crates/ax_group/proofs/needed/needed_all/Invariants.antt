-- What was made, before the values that are left, makes the same of the tallies as all values.
use Rattle.std.proofs.Common.{◌≡◌, ◌++◌, drop}
use Rattle.ax_group.specs.States.{tallies_with}
use Rattle.ax_group.proofs.needed.needed_all.Given as goal

abbrev pub invariant-loop-value : goal.invariant-loop-value
invariant-loop-value l =
    tallies_with l.tallies (l.made.items ++ drop l.value-index l.values)
    ≡ tallies_with l.tallies l.values
