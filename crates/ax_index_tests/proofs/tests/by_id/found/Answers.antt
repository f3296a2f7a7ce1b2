use Rattle.ax_index_support.proofs.ReadyLemmas.{ready_read}
use Rattle.ax_index_tests.proofs.tests.by_id.found.Goals as goal

pub returns : goal.returns
returns g c =
    ready_read g.C.PageCache.pages _ _ _ _ _ _ _ _ c.requires c.number_of.ensures.honest c.number_of.ensures.reads
