use Rattle.std.proofs.Common.{◌≡◌, ◌++◌, List, map, drop, true}
use Rattle.ax_tree.specs.declared.members.Member.{Member}
use Rattle.ax_tree.specs.declared.tree.Tree.{Tree}
use Rattle.ax_tree.specs.Names.{names, HaveRisingNames}
use Rattle.ax_tree.specs.Rising.{is_rising}
use Rattle.ax_skim.specs.Members.{members_text}
use Rattle.ax_excerpt.specs.Excerpts.{chosen}
use Rattle.ax_excerpt_text.specs.Left.{AreReadable}
use Rattle.ax_excerpt.specs.Plain.{plain_parts, plain_flag, leaving}
use Rattle.ax_excerpt_text.proofs.ReadLaws.{IsGoing}
use Rattle.ax_excerpt_text.proofs.read.+excerpt.Given as goal

abbrev pub invariant-read_parts-loop-part : goal.invariant-read_parts-loop-part
invariant-read_parts-loop-part l =
    (is_rising (names l.found.items ++ names (drop l.part-index l.part-items)) ≡ true)
    × (plain_parts (map plain_flag (drop l.part-index l.part-items)) ≡ true)
    × ((those : List (Member Tree)) → l.members ≡ members_text those → HaveRisingNames those
    → AreReadable those
    → IsGoing l.rest (drop l.part-index l.part-items) l.found.items (chosen (map leaving l.parts) those))
