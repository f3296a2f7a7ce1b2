-- What is left is the same exactly where the whole is.
use Rattle.std.proofs.Common.{◌≡◌, drop}
use Rattle.ax_func.proofs.Pairwise.{items_pass, members_pass}
use Rattle.ax_func.proofs.same.+same.Given as goal

abbrev pub invariant-same_items-loop-at : goal.invariant-same_items-loop-at
invariant-same_items-loop-at l =
    items_pass (drop l.at l.left) (drop l.at l.right) ≡ items_pass l.left l.right

abbrev pub invariant-same_members-loop-at : goal.invariant-same_members-loop-at
invariant-same_members-loop-at l =
    members_pass (drop l.at l.left) (drop l.at l.right) ≡ members_pass l.left l.right
