-- The copies so far are the first ones.
use Rattle.std.proofs.Common.{◌≡◌, take}
use Rattle.ax_tree.proofs.+copy.Given as goal

abbrev pub invariant-copy::copy_of_items-loop-item : goal.invariant-copy::copy_of_items-loop-item
invariant-copy::copy_of_items-loop-item l = l.copied.items ≡ take l.item-index l.items

abbrev pub
    invariant-copy::copy_of_members-loop-member : goal.invariant-copy::copy_of_members-loop-member
invariant-copy::copy_of_members-loop-member l = l.copied.items ≡ take l.member-index l.members
