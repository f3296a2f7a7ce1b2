use Rattle.ax_index_support.proofs.ReadyLemmas.{ready_read}
use Rattle.ax_index_support.proofs.changing.look_in_some.Goals as goal

pub returns-clause-ready : goal.returns-clause-ready
returns-clause-ready g c =
    ready_read g.C.PageCache.pages _ _ _ _ _ _ _ _ c.requires c.pairs_in_some.ensures.honest c.pairs_in_some.ensures.reads
