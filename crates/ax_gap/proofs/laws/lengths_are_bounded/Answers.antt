use Rattle.std.proofs.Common.{arith}
use Rattle.ax_gap.proofs.Lengths.{five_groups, list_within}
use Rattle.ax_gap.proofs.laws.lengths_are_bounded.Goals as goal

pub returns-clause-number : goal.returns-clause-number
returns-clause-number c n h = five_groups n (omega arith)

pub returns-clause-list : goal.returns-clause-list
returns-clause-list c = list_within
