use Rattle.std.proofs.Common.{◌≡◌, take}
use Rattle.ax_pair_list.proofs.pair_ref.refs_of.Given as goal

abbrev pub invariant-loop-at : goal.invariant-loop-at
invariant-loop-at l = l.refs.items ≡ take l.at l.pairs
