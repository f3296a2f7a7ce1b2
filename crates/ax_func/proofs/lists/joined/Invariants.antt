-- What is joined, before what the values left give, is the whole.
use Rattle.std.proofs.Common.{◌≡◌, ◌++◌, drop, option_map}
use Rattle.ax_mean.specs.ListFunctions.{joined_lists}
use Rattle.ax_func.proofs.lists.joined.Given as goal

abbrev pub invariant-loop-value : goal.invariant-loop-value
invariant-loop-value l =
    option_map (λ r. l.joined.items ++ r)
    (joined_lists (drop l.value-index l.values)) ≡ joined_lists l.values
