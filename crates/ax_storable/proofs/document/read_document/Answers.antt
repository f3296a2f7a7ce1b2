use Rattle.std.proofs.Common.{Err, ap}
use Rattle.ax_storable.proofs.StoredDocuments.{not_storable, not_stored}
use Rattle.ax_storable.proofs.document.read_document.Goals as goal

pub returns-in-Err-clause-outside : goal.returns-in-Err-clause-outside
returns-in-Err-clause-outside c = λ is tree stored.
    not_stored c.args.text.now c.in_ok-tree.tree c.in_ok-tree.ensures.well_formed c.in_ok-tree.ensures.spelled
    (not_storable c.in_ok-tree.tree c.in-Err.fault (c.outside_unless_memory.ensures (cc is))
    (λ same. c.in-Err.ensures.id (ap (λ fault. Err fault) same)) (λ same. c.in-Err.ensures.large (ap (λ fault. Err fault) same)))
    tree stored
