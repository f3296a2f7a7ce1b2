use Rattle.std.proofs.Common.{◌≡◌, take}
use Rattle.ax_pair_list.proofs.pair_list.PairList.refs.Given as goal

abbrev pub invariant-loop-at : goal.invariant-loop-at
invariant-loop-at l = l.refs.items ≡ take l.at l.self
