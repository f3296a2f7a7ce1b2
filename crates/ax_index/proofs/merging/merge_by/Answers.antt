use Rattle.ax_index.proofs.ReadsLaws.{others_still, reads_only, room_behind}
use Rattle.ax_index.proofs.merging.merge_by.Goals as goal

pub returns-in-Err-clause-reserves : goal.returns-in-Err-clause-reserves
returns-in-Err-clause-reserves g c = reads_only g.C.PageCache.pages _ _ _ _ _ _ _ c.in-Err.ensures.reads

pub returns-in-Ok-reserve-clause-reserves : goal.returns-in-Ok-reserve-clause-reserves
returns-in-Ok-reserve-clause-reserves g c =
    room_behind g.C.PageCache.pages _ _ _ _ _ _ _ _ (reads_only g.C.PageCache.pages _ _ _ _ _ _ _ c.in-Ok.ensures.reads)
    c.reserve.ensures.same

pub returns-in-Err-reserve-clause-reserves : goal.returns-in-Err-reserve-clause-reserves
returns-in-Err-reserve-clause-reserves g c =
    room_behind g.C.PageCache.pages _ _ _ _ _ _ _ _ (reads_only g.C.PageCache.pages _ _ _ _ _ _ _ c.in-Ok.ensures.reads)
    c.reserve.ensures.same

pub returns-in-Ok-reserve-clause-others : goal.returns-in-Ok-reserve-clause-others
returns-in-Ok-reserve-clause-others g c = others_still _ _ _ _ c.reserve.ensures.same.slots c.in-Ok.ensures.others

pub returns-in-Err-reserve-clause-others : goal.returns-in-Err-reserve-clause-others
returns-in-Err-reserve-clause-others g c = others_still _ _ _ _ c.reserve.ensures.same.slots c.in-Ok.ensures.others
