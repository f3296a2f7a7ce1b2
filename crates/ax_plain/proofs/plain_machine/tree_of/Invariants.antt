-- No entry so far has the id.
use Rattle.std.proofs.Common.{◌≡◌, drop, find}
use Rattle.ax_container.specs.Container.{has_id}
use Rattle.ax_plain.proofs.plain_machine.tree_of.Given as goal

abbrev pub invariant-loop-document : goal.invariant-loop-document
invariant-loop-document l = find (has_id l.id) (drop l.document-index l.documents) ≡ find (has_id l.id) l.documents
