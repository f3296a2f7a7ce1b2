-- What is copied so far and what is left make the whole.
use Rattle.std.proofs.Common.{◌≡◌, ◌++◌, not, drop}
use Rattle.std.specs.List.{filter}
use Rattle.ax_container.specs.Container.{has_id}
use Rattle.ax_plain.proofs.plain_machine.without.Given as goal

abbrev pub invariant-loop-document : goal.invariant-loop-document
invariant-loop-document l = l.after.items ++ filter (λ entry. not (has_id l.id entry))
    (drop l.document-index l.documents) ≡ filter (λ entry. not (has_id l.id entry)) l.documents
