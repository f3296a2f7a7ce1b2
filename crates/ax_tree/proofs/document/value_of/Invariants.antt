-- No member so far has the name.
use Rattle.std.proofs.Common.{◌≡◌, drop}
use Rattle.ax_tree.specs.Document.{value_of}
use Rattle.ax_tree.proofs.document.value_of.Given as goal

abbrev pub invariant-loop-member : goal.invariant-loop-member
invariant-loop-member l =
    value_of l.name (drop l.member-index l.members) ≡ value_of l.name l.members
