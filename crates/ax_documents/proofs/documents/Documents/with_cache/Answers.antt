-- What holds of the documents over one cache holds of them over another.
use Rattle.std.proofs.Common.{refl}
use Rattle.ax_documents.proofs.Recaching.{hold_still}
use Rattle.ax_documents.proofs.documents.Documents.with_cache.Goals as goal

pub returns-clause-holds : goal.returns-clause-holds
returns-clause-holds g c = λ container holds.
    hold_still c.args.self _ container (record { store = c.with_cache.ensures.same; table = refl; ids = refl }) holds
