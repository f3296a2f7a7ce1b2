-- The deletion is behind a look-up that only read; where the id is not held, nothing is behind it.
use Rattle.std.proofs.Common.{Ok, refl, sym, subst, ◌∙◌}
use Rattle.std.specs.Prelude.{IsTrue}
use Rattle.ax_container.specs.Writes.{deleted, removed}
use Rattle.ax_write.proofs.FoundNumbers.{found_is, no_removal, none_is, removal_is}
use Rattle.ax_index.proofs.Unmoved.{same_contents}
use Rattle.ax_store.specs.Store.{store_contents}
use Rattle.ax_write.proofs.Learning.{learns_deleted}
use Rattle.ax_write.proofs.Meeting.{meets_absent, meets_held, told_found}
use Rattle.ax_write.proofs.Passing.{kept_by_look, leaves_absent, leaves_failed, leaves_then, tells_failed, tells_then}
use Rattle.ax_write.proofs.Smallness.{small_told}
use Rattle.ax_write.proofs.writes.delete.Goals as goal

pub returns-in-Ok-Some-clause-tells : goal.returns-in-Ok-Some-clause-tells
returns-in-Ok-Some-clause-tells g c = λ honest works before holds.
    let start = g.D.Disk.history c.args.disk.now (g.D.Disk.attached c.args.disk.now) in
    let mid = g.D.Disk.history c.find_held.new.disk (g.D.Disk.attached c.find_held.new.disk) in
    let id = c.args.id.now in
    let found = found_is id before c.in-Ok-Some.field-0 c.in-Ok-Some.found c.in-Ok-Some.field-0-is
    (c.in-Ok-Some.ensures.found honest before holds) in
    tells_then g.C.PageCache.pages c.args.store.now start mid before (c.requires.agrees honest works) holds.contents
    (c.in-Ok-Some.ensures.leaves.reads.lists honest) (g.D.Disk.history c.delete_held-done.new.disk (g.D.Disk.attached c.delete_held-done.new.disk))
    (removed id before) (Ok (deleted id before)) c.delete_held-done.result c.delete_held-done.new.store c.delete_held-done.new.ids
    (removal_is before id c.in-Ok-Some.found found)
    (c.delete_held-done.ensures.tells (subst IsTrue (sym c.find_held.ensures.honest) honest) (c.in-Ok-Some.ensures.leaves.fails ∙ works) before
    (c.find_held.ensures.ids honest before holds) found)

pub returns-in-Ok-Some-clause-met : goal.returns-in-Ok-Some-clause-met
returns-in-Ok-Some-clause-met g c = λ honest.
    let id = c.args.id.now in
    meets_held c.args.ids.now id id (store_contents c.args.store.now) refl c.in-Ok-Some.field-0 (c.in-Ok-Some.ensures.met honest)
    c.in-Ok-Some.found c.in-Ok-Some.field-0-is c.delete_held-done.result c.delete_held-done.ensures.only

pub returns-in-Ok-Some-clause-leaves : goal.returns-in-Ok-Some-clause-leaves
returns-in-Ok-Some-clause-leaves g c =
    leaves_then g.C.PageCache.pages _ c.in-Ok-Some.field-0 _ c.find_held.ensures.honest c.delete_held-done.result _ _ _ _ _ _ _ _ _
    c.in-Ok-Some.ensures.leaves c.delete_held-done.ensures.leaves

pub returns-in-Ok-None-clause-tells : goal.returns-in-Ok-None-clause-tells
returns-in-Ok-None-clause-tells g c = λ honest works before holds.
    let start = g.D.Disk.history c.args.disk.now (g.D.Disk.attached c.args.disk.now) in
    let mid = g.D.Disk.history c.find_held.new.disk (g.D.Disk.attached c.find_held.new.disk) in
    let id = c.args.id.now in (
      no_removal before id (none_is id before c.in-Ok-None.field-0 c.in-Ok-None.field-0-is (c.in-Ok-None.ensures.found honest before holds)),
      kept_by_look g.C.PageCache.pages c.args.store.now start mid before (c.requires.agrees honest works) holds.contents
          (c.in-Ok-None.ensures.leaves.reads.lists honest) c.find_held.new.store c.find_held.new.ids (c.find_held.ensures.ids honest before holds),
    )

pub returns-in-Ok-None-clause-met : goal.returns-in-Ok-None-clause-met
returns-in-Ok-None-clause-met g c = λ honest.
    let id = c.args.id.now in
    meets_absent c.args.ids.now id id (store_contents c.args.store.now) refl c.in-Ok-None.field-0 (c.in-Ok-None.ensures.met honest)
    c.in-Ok-None.field-0-is

pub returns-in-Ok-None-clause-leaves : goal.returns-in-Ok-None-clause-leaves
returns-in-Ok-None-clause-leaves g c = leaves_absent g.C.PageCache.pages _ _ _ _ _ _ _ c.in-Ok-None.field-0 c.in-Ok-None.ensures.leaves

pub returns-in-Err-clause-tells : goal.returns-in-Err-clause-tells
returns-in-Err-clause-tells g c = λ honest works before holds.
    let start = g.D.Disk.history c.args.disk.now (g.D.Disk.attached c.args.disk.now) in
    let mid = g.D.Disk.history c.find_held.new.disk (g.D.Disk.attached c.find_held.new.disk) in
    tells_failed g.C.PageCache.pages c.args.store.now start mid before (c.requires.agrees honest works) holds.contents
    (c.in-Err.ensures.leaves.reads.lists honest) (removed c.args.id.now before) c.find_held.new.store c.find_held.new.ids c.in-Err.fault
    (c.find_held.ensures.ids honest before holds) (c.in-Err.ensures.leaves.told honest)

pub returns-in-Err-clause-leaves : goal.returns-in-Err-clause-leaves
returns-in-Err-clause-leaves g c = leaves_failed g.C.PageCache.pages _ _ _ _ _ _ _ c.in-Err.fault c.in-Err.ensures.leaves

pub returns-in-Ok-Some-clause-small : goal.returns-in-Ok-Some-clause-small
returns-in-Ok-Some-clause-small g c =
    let id = c.args.id.now in
    let contents = store_contents c.args.store.now in
    small_told c.delete_held-done.result _ _ c.find_held.ensures.honest _ _ contents (store_contents c.find_held.new.store)
    (store_contents c.delete_held-done.new.store)
    (same_contents c.args.store.now c.find_held.new.store c.in-Ok-Some.ensures.leaves.reads.same.same) c.args.ids.now id c.in-Ok-Some.found
    (λ honest. told_found c.args.ids.now id id contents refl c.in-Ok-Some.field-0 c.in-Ok-Some.found c.in-Ok-Some.field-0-is
    (c.in-Ok-Some.ensures.number honest))
    c.delete_held-done.ensures.small

pub returns-in-Ok-Some-clause-learns : goal.returns-in-Ok-Some-clause-learns
returns-in-Ok-Some-clause-learns g c =
    learns_deleted _ c.args.id.now (store_contents c.args.store.now) c.args.ids.now c.find_held.new.ids c.delete_held-done.new.ids
    c.find_held.ensures.learns c.delete_held-done.result c.delete_held-done.ensures.learns
