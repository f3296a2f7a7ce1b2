use Rattle.std.proofs.Common.{sym, ◌∙◌}
use Rattle.ax_store.specs.Store.{store_parts}
use Rattle.ax_store.proofs.Saying.{many_alike}
use Rattle.ax_store.proofs.store.Store.documents.Goals as goal

pub returns : goal.returns
returns g c = c.document_count.ensures ∙ sym (many_alike (store_parts c.args.self.now))
