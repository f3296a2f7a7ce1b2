-- No entry so far has the id.
use Rattle.std.proofs.Common.{◌≡◌, drop}
use Rattle.std.specs.List.{list_any}
use Rattle.ax_container.specs.Container.{has_id}
use Rattle.ax_plain.proofs.plain_machine.contains.Given as goal

abbrev pub invariant-loop-document : goal.invariant-loop-document
invariant-loop-document l = list_any (has_id l.id) (drop l.document-index l.documents) ≡ list_any
    (has_id l.id) l.documents
