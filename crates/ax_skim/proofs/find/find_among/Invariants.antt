use Rattle.std.proofs.Common.{◌≡◌, List, length}
use Rattle.ax_tree.specs.declared.members.Member.{Member}
use Rattle.ax_tree.specs.declared.tree.Tree.{Tree}
use Rattle.ax_skim.specs.Members.{members_text}
use Rattle.ax_skim.proofs.Found.{IsLeft}
use Rattle.ax_skim.proofs.find.find_among.Given as goal

abbrev pub invariant-loop-value : goal.invariant-loop-value
invariant-loop-value l =
    (those : List (Member Tree)) → l.members ≡ members_text those → IsLeft l.name l.rest those

abbrev pub decreases-loop-value : goal.decreases-loop-value
decreases-loop-value l = length l.rest
