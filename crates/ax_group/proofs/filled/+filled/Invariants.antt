-- What is made so far, with what the results that are left make of the children that are left, is the
-- whole.
use Rattle.std.proofs.Common.{◌≡◌, ◌++◌, drop, map}
use Rattle.ax_group.specs.Walks.{fill_pair, operand_fill, member_fill, all_filled, operands_filled, members_filled}
use Rattle.ax_group.proofs.filled.+filled.Given as goal

abbrev pub invariant-list_of-loop-item : goal.invariant-list_of-loop-item
invariant-list_of-loop-item l = record {
  made : l.made.items ++ (all_filled (map fill_pair (drop l.item-index l.items)) l.results).0
      ≡ (all_filled (map fill_pair l.items) l.initial.results).0;
  left : (all_filled (map fill_pair (drop l.item-index l.items)) l.results).1
      ≡ (all_filled (map fill_pair l.items) l.initial.results).1;
}

abbrev pub invariant-chain_of-loop-chained : goal.invariant-chain_of-loop-chained
invariant-chain_of-loop-chained l = record {
  made : l.made.items
      ++ (operands_filled (map operand_fill (drop l.chained-index l.chain)) l.results).0
      ≡ (operands_filled (map operand_fill l.chain) l.initial.results).0;
  left : (operands_filled (map operand_fill (drop l.chained-index l.chain)) l.results).1
      ≡ (operands_filled (map operand_fill l.chain) l.initial.results).1;
}

abbrev pub invariant-members_of-loop-member : goal.invariant-members_of-loop-member
invariant-members_of-loop-member l = record {
  made : l.made.items
      ++ (members_filled (map member_fill (drop l.member-index l.members)) l.results).0
      ≡ (members_filled (map member_fill l.members) l.initial.results).0;
  left : (members_filled (map member_fill (drop l.member-index l.members)) l.results).1
      ≡ (members_filled (map member_fill l.members) l.initial.results).1;
}
