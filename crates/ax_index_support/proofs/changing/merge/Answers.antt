use Rattle.ax_index_support.proofs.ReadyLemmas.{ready_reserved, within_merged}
use Rattle.ax_index_support.proofs.changing.merge.Goals as goal

pub returns-in_err-merged-clause-ready : goal.returns-in_err-merged-clause-ready
returns-in_err-merged-clause-ready g c =
    ready_reserved g.C.PageCache.pages _ _ _ _ _ _ _ _ c.requires c.merge_some.ensures.honest c.merge_some.ensures.reserves

pub commit_batch-requires-clause-ready : goal.commit_batch-requires-clause-ready
commit_batch-requires-clause-ready g c =
    ready_reserved g.C.PageCache.pages _ _ _ _ _ _ _ _ c.requires c.merge_some.ensures.honest c.merge_some.ensures.reserves

pub commit_batch-requires-clause-within : goal.commit_batch-requires-clause-within
commit_batch-requires-clause-within g c =
    within_merged c.args.most _ _ _ _ _ c.in_ok-merged.ensures.merged c.begin-batch.ensures.parts c.merge_some.ensures.reserves.same.contents
