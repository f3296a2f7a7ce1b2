-- The commit is behind a walk that only read; where the walk failed nothing is behind it.
use Rattle.std.proofs.Common.{Ok, refl, subst, sym, ◌∙◌}
use Rattle.std.specs.Prelude.{IsTrue}
use Rattle.ax_container.specs.Reindexing.{stepped}
use Rattle.ax_index.proofs.Unmoved.{same_contents}
use Rattle.ax_store.specs.Store.{store_contents}
use Rattle.ax_transform.proofs.Stepped.{fetched_few, gathered_over, holds_still}
use Rattle.ax_transform.specs.Gathering.{start_of}
use Rattle.ax_transform.specs.Steps.{as_write}
use Rattle.ax_write.proofs.Passing.{leaves_failed, leaves_then, tells_failed, tells_then}
use Rattle.ax_transform.proofs.stepping.step.Goals as goal

pub returns-in-Ok-clause-tells : goal.returns-in-Ok-clause-tells
returns-in-Ok-clause-tells g c = λ honest works before ids holds.
    let store = c.args.store.now in
    let read = c.gather.new.store in
    let table = c.args.table.now in
    let same = same_contents store read c.in-Ok.ensures.leaves.reads.same.same in
    let start = g.D.Disk.history c.args.disk.now (g.D.Disk.attached c.args.disk.now) in
    let mid = g.D.Disk.history c.gather.new.disk (g.D.Disk.attached c.gather.new.disk) in
    let made = Ok (stepped c.args.count before) in
    tells_then g.C.PageCache.pages store start mid before (c.requires.agrees honest works) holds.contents
    (c.in-Ok.ensures.leaves.reads.lists honest) (g.D.Disk.history c.commit_moves.new.disk (g.D.Disk.attached c.commit_moves.new.disk))
    made made (as_write c.commit_moves.result) c.commit_moves.new.store ids refl
    (c.commit_moves.ensures.tells (subst IsTrue (sym c.gather.ensures.honest) honest) (c.in-Ok.ensures.leaves.fails ∙ works)
    before ids (holds_still store read ids before same holds) c.args.count
    (gathered_over _ _ c.args.count table (store_contents store) (store_contents read) (start_of table) c.in-Ok.moves c.gather.ensures.honest same
    c.in-Ok.ensures.found))

pub returns-in-Ok-clause-no_more : goal.returns-in-Ok-clause-no_more
returns-in-Ok-clause-no_more g c = λ honest before hold.
    fetched_few _ honest c.args.table.now (store_contents c.args.store.now) c.requires.table refl before hold.documents c.args.steps.now
    c.gather.new.steps c.gather.ensures.fetched

pub returns-in-Ok-clause-leaves : goal.returns-in-Ok-clause-leaves
returns-in-Ok-clause-leaves g c =
    leaves_then g.C.PageCache.pages _ c.in-Ok.moves _ c.gather.ensures.honest (as_write c.commit_moves.result) _ _ _ _ _ _ _ _ _
    c.in-Ok.ensures.leaves c.commit_moves.ensures.leaves

pub returns-in-Err-clause-tells : goal.returns-in-Err-clause-tells
returns-in-Err-clause-tells g c = λ honest works before ids holds.
    let store = c.args.store.now in
    let read = c.gather.new.store in
    let start = g.D.Disk.history c.args.disk.now (g.D.Disk.attached c.args.disk.now) in
    let mid = g.D.Disk.history c.gather.new.disk (g.D.Disk.attached c.gather.new.disk) in
    tells_failed g.C.PageCache.pages store start mid before (c.requires.agrees honest works) holds.contents
    (c.in-Err.ensures.leaves.reads.lists honest) (Ok (stepped c.args.count before)) read ids c.in-Err.fault
    (holds_still store read ids before (same_contents store read c.in-Err.ensures.leaves.reads.same.same) holds)
    (c.in-Err.ensures.leaves.told honest)

pub returns-in-Err-clause-no_more : goal.returns-in-Err-clause-no_more
returns-in-Err-clause-no_more g c = λ honest before hold.
    fetched_few _ honest c.args.table.now (store_contents c.args.store.now) c.requires.table refl before hold.documents c.args.steps.now
    c.gather.new.steps c.gather.ensures.fetched

pub returns-in-Err-clause-leaves : goal.returns-in-Err-clause-leaves
returns-in-Err-clause-leaves g c =
    leaves_failed g.C.PageCache.pages _ c.args.store.now c.gather.new.store _ _ _ _ c.in-Err.fault c.in-Err.ensures.leaves
