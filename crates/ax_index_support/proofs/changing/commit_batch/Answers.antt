use Rattle.std.proofs.Common.{sym, subst}
use Rattle.ax_store.specs.Batch.{AreAllowed}
use Rattle.ax_store.specs.Store.{store_contents}
use Rattle.ax_index_support.proofs.changing.commit_batch.Goals as goal

pub commit-requires-clause-within : goal.commit-requires-clause-within
commit-requires-clause-within g c =
    subst (λ parts. AreAllowed parts (store_contents c.args.store.now)) (sym c.in-Ok.ensures.parts) c.requires.within
