-- The documents so far were taken in. The ledger of each turn is that of its blank.
use Rattle.std.proofs.Common.{[], map, take}
use Rattle.ax_mean.specs.declared.query.Query.{Query}
use Rattle.ax_answer.specs.Gathering.{Gathers}
use Rattle.ax_plain.proofs.query_rows.add_documents.Given as goal

abbrev pub ghosts-add_document : goal.ghosts-add_document
ghosts-add_document a = record { name = a.blank.name; parts = a.blank.parts }

abbrev pub invariant-loop-document : goal.invariant-loop-document
invariant-loop-document l = (query : Query) → Gathers l.fn.answer query []
    → Gathers l.answer query
    (map (λ entry. (entry.number, entry.tree)) (take l.document-index l.documents))
