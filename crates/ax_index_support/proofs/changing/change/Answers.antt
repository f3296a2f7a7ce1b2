use Rattle.ax_index_support.proofs.ReadyLemmas.{ready_reserved, within_planned}
use Rattle.ax_index_support.proofs.changing.change.Goals as goal

pub returns-in_err-merged-clause-ready : goal.returns-in_err-merged-clause-ready
returns-in_err-merged-clause-ready g c =
    ready_reserved g.C.PageCache.pages _ _ _ _ _ _ _ _ c.requires c.plan_changes.ensures.honest c.plan_changes.ensures.reserves

pub commit_batch-requires-clause-ready : goal.commit_batch-requires-clause-ready
commit_batch-requires-clause-ready g c =
    ready_reserved g.C.PageCache.pages _ _ _ _ _ _ _ _ c.requires c.plan_changes.ensures.honest c.plan_changes.ensures.reserves

pub commit_batch-requires-clause-within : goal.commit_batch-requires-clause-within
commit_batch-requires-clause-within g c =
    within_planned c.args.changes.now _ _ _ _ _ c.in_ok-merged.ensures.planned c.begin-batch.ensures.parts c.plan_changes.ensures.reserves.same.contents
