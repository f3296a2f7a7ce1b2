use Rattle.std.proofs.Common.{◌≡◌, List, length}
use Rattle.ax_tree.specs.declared.members.Member.{Member}
use Rattle.ax_tree.specs.declared.tree.Tree.{Tree}
use Rattle.ax_tree.specs.Names.{HaveRisingNames}
use Rattle.ax_skim.specs.Members.{members_text}
use Rattle.ax_excerpt_text.specs.Left.{AreReadable, IsNear}
use Rattle.ax_excerpt_text.proofs.looking.look.Given as goal

abbrev pub invariant-loop-value : goal.invariant-loop-value
invariant-loop-value l =
    (those : List (Member Tree)) → l.members ≡ members_text those → HaveRisingNames those
    → AreReadable those → IsNear l.name l.rest those

abbrev pub decreases-loop-value : goal.decreases-loop-value
decreases-loop-value l = length l.rest
