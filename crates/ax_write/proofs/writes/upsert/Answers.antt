-- The replacement or the creation is behind a look-up that only read.
use Rattle.std.proofs.Common.{Ok, refl, sym, subst, ◌∙◌}
use Rattle.std.specs.Prelude.{IsTrue}
use Rattle.ax_container.specs.Writes.{creation, replaced, upserted}
use Rattle.ax_write.proofs.FoundNumbers.{found_is, never_both, none_is, own_document, own_id, upsert_is, upsert_replaces}
use Rattle.ax_index.proofs.Unmoved.{same_contents}
use Rattle.ax_store.specs.Store.{store_contents}
use Rattle.ax_write.proofs.Learning.{learns_at, learns_exchanged, learns_upserted, puts_over, upserted_at}
use Rattle.ax_write.proofs.Meeting.{found_own, full_of_store, full_over, full_told, meets_absent, meets_exchanged, meets_new, told_found}
use Rattle.ax_write.proofs.Passing.{leaves_failed, leaves_then, tells_failed, tells_then}
use Rattle.ax_write.proofs.Smallness.{small_new, small_upserted}
use Rattle.ax_write.proofs.writes.upsert.Goals as goal

pub returns-in-Ok-Some-clause-tells : goal.returns-in-Ok-Some-clause-tells
returns-in-Ok-Some-clause-tells g c = λ honest works before id holds document.
    let start = g.D.Disk.history c.args.disk.now (g.D.Disk.attached c.args.disk.now) in
    let mid = g.D.Disk.history c.find_held.new.disk (g.D.Disk.attached c.find_held.new.disk) in
    let tree = c.args.tree.now in
    let own = c.as_bytes-id.result.now in
    let taken = c.as_bytes-id.ensures.value ∙ c.as_str.ensures.text in
    let same = own_id tree c.in-Some.id.now own id c.in-Some.ensures taken document in
    let found = found_is own before c.in-Ok-Some.field-0 c.in-Ok-Some.found c.in-Ok-Some.field-0-is
    (c.in-Ok-Some.ensures.found honest before holds) in
    tells_then g.C.PageCache.pages c.args.store.now start mid before (c.requires.agrees honest works) holds.contents
    (c.in-Ok-Some.ensures.leaves.reads.lists honest) (g.D.Disk.history c.replace_held-done.new.disk (g.D.Disk.attached c.replace_held-done.new.disk))
    (upserted id tree before) (Ok (replaced own tree before)) c.replace_held-done.result c.replace_held-done.new.store c.find_held.new.ids
    (upsert_replaces tree before own id same c.in-Ok-Some.found found)
    (c.replace_held-done.ensures.tells (subst IsTrue (sym c.find_held.ensures.honest) honest) (c.in-Ok-Some.ensures.leaves.fails ∙ works)
    before c.find_held.new.ids own (c.find_held.ensures.ids honest before holds) (own_document tree c.in-Some.id.now own c.in-Some.ensures taken)
    found)

pub returns-in-Ok-Some-clause-met : goal.returns-in-Ok-Some-clause-met
returns-in-Ok-Some-clause-met g c = λ honest id document.
    let own = c.as_bytes-id.result.now in
    let same = own_id c.args.tree.now c.in-Some.id.now own id c.in-Some.ensures (c.as_bytes-id.ensures.value ∙ c.as_str.ensures.text) document in
    meets_exchanged c.args.ids.now own id (store_contents c.args.store.now) same c.in-Ok-Some.field-0 (c.in-Ok-Some.ensures.met honest)
    c.in-Ok-Some.found c.in-Ok-Some.field-0-is c.replace_held-done.result c.replace_held-done.ensures.only

pub returns-in-Ok-Some-clause-leaves : goal.returns-in-Ok-Some-clause-leaves
returns-in-Ok-Some-clause-leaves g c =
    leaves_then g.C.PageCache.pages _ c.in-Ok-Some.field-0 _ c.find_held.ensures.honest c.replace_held-done.result _ _ _ _ _ _ _ _ _
    c.in-Ok-Some.ensures.leaves c.replace_held-done.ensures.leaves

pub returns-in-Ok-None-clause-tells : goal.returns-in-Ok-None-clause-tells
returns-in-Ok-None-clause-tells g c = λ honest works before id holds document.
    let start = g.D.Disk.history c.args.disk.now (g.D.Disk.attached c.args.disk.now) in
    let mid = g.D.Disk.history c.find_held.new.disk (g.D.Disk.attached c.find_held.new.disk) in
    let tree = c.args.tree.now in
    let own = c.as_bytes-id.result.now in
    let taken = c.as_bytes-id.ensures.value ∙ c.as_str.ensures.text in
    let same = own_id tree c.in-Some.id.now own id c.in-Some.ensures taken document in
    let none = none_is own before c.in-Ok-None.field-0 c.in-Ok-None.field-0-is (c.in-Ok-None.ensures.found honest before holds) in
    tells_then g.C.PageCache.pages c.args.store.now start mid before (c.requires.agrees honest works) holds.contents
    (c.in-Ok-None.ensures.leaves.reads.lists honest) (g.D.Disk.history c.create_new.new.disk (g.D.Disk.attached c.create_new.new.disk))
    (upserted id tree before) (creation own tree before) c.create_new.result c.create_new.new.store c.create_new.new.ids
    (upsert_is tree before own id same none)
    (c.create_new.ensures.tells (subst IsTrue (sym c.find_held.ensures.honest) honest) (c.in-Ok-None.ensures.leaves.fails ∙ works) before
    (c.find_held.ensures.ids honest before holds) (own_document tree c.in-Some.id.now own c.in-Some.ensures taken) none)

pub returns-in-Ok-None-clause-met : goal.returns-in-Ok-None-clause-met
returns-in-Ok-None-clause-met g c = λ honest id document.
    let own = c.as_bytes-id.result.now in
    let same = own_id c.args.tree.now c.in-Some.id.now own id c.in-Some.ensures (c.as_bytes-id.ensures.value ∙ c.as_str.ensures.text) document in
    let still = same_contents c.args.store.now c.find_held.new.store c.in-Ok-None.ensures.leaves.reads.same.same in
    meets_new c.args.ids.now own id (store_contents c.args.store.now) same c.in-Ok-None.field-0 (c.in-Ok-None.ensures.met honest)
    c.in-Ok-None.field-0-is c.create_new.result (full_over _ _ still c.create_new.result c.create_new.ensures.full_only)

pub returns-in-Ok-None-clause-counted : goal.returns-in-Ok-None-clause-counted
returns-in-Ok-None-clause-counted g c = λ honest before id holds document held.
    let tree = c.args.tree.now in
    let own = c.as_bytes-id.result.now in
    let same = own_id tree c.in-Some.id.now own id c.in-Some.ensures (c.as_bytes-id.ensures.value ∙ c.as_str.ensures.text) document in
    absurd (never_both tree before own id same
    (none_is own before c.in-Ok-None.field-0 c.in-Ok-None.field-0-is (c.in-Ok-None.ensures.found honest before holds)) held)

pub returns-in-Ok-None-clause-leaves : goal.returns-in-Ok-None-clause-leaves
returns-in-Ok-None-clause-leaves g c =
    leaves_then g.C.PageCache.pages _ c.in-Ok-None.field-0 _ c.find_held.ensures.honest c.create_new.result _ _ _ _ _ _ _ _ _
    c.in-Ok-None.ensures.leaves c.create_new.ensures.leaves

pub returns-in-Err-clause-tells : goal.returns-in-Err-clause-tells
returns-in-Err-clause-tells g c = λ honest works before id holds document.
    let start = g.D.Disk.history c.args.disk.now (g.D.Disk.attached c.args.disk.now) in
    let mid = g.D.Disk.history c.find_held.new.disk (g.D.Disk.attached c.find_held.new.disk) in
    tells_failed g.C.PageCache.pages c.args.store.now start mid before (c.requires.agrees honest works) holds.contents
    (c.in-Err.ensures.leaves.reads.lists honest) (upserted id c.args.tree.now before) c.find_held.new.store c.find_held.new.ids c.in-Err.fault
    (c.find_held.ensures.ids honest before holds) (c.in-Err.ensures.leaves.told honest)

pub returns-in-Err-clause-leaves : goal.returns-in-Err-clause-leaves
returns-in-Err-clause-leaves g c = leaves_failed g.C.PageCache.pages _ _ _ _ _ _ _ c.in-Err.fault c.in-Err.ensures.leaves

pub returns-in-Ok-Some-clause-small : goal.returns-in-Ok-Some-clause-small
returns-in-Ok-Some-clause-small g c = λ id document.
    let own = c.as_bytes-id.result.now in
    let same = own_id c.args.tree.now c.in-Some.id.now own id c.in-Some.ensures (c.as_bytes-id.ensures.value ∙ c.as_str.ensures.text) document in
    let contents = store_contents c.args.store.now in
    let still = same_contents c.args.store.now c.find_held.new.store c.in-Ok-Some.ensures.leaves.reads.same.same in
    small_upserted c.replace_held-done.result _ _ c.find_held.ensures.honest _ _ contents (store_contents c.find_held.new.store)
    (store_contents c.replace_held-done.new.store) still c.args.ids.now id c.in-Ok-Some.found
    (λ honest. told_found c.args.ids.now own id contents same c.in-Ok-Some.field-0 c.in-Ok-Some.found c.in-Ok-Some.field-0-is
    (c.in-Ok-Some.ensures.number honest))
    c.replace_held-done.ensures.small

pub returns-in-Ok-Some-clause-learns : goal.returns-in-Ok-Some-clause-learns
returns-in-Ok-Some-clause-learns g c = λ id document.
    let own = c.as_bytes-id.result.now in
    let same = own_id c.args.tree.now c.in-Some.id.now own id c.in-Some.ensures (c.as_bytes-id.ensures.value ∙ c.as_str.ensures.text) document in
    let contents = store_contents c.args.store.now in
    upserted_at own id same _ contents c.args.ids.now c.find_held.new.ids c.replace_held-done.result
    (learns_exchanged _ own contents c.args.ids.now c.find_held.new.ids
    (λ honest. found_own c.args.ids.now own own contents refl c.in-Ok-Some.field-0 (c.in-Ok-Some.ensures.met honest)
    c.in-Ok-Some.found c.in-Ok-Some.field-0-is)
    c.find_held.ensures.learns c.replace_held-done.result)

pub returns-in-Ok-None-clause-small : goal.returns-in-Ok-None-clause-small
returns-in-Ok-None-clause-small g c = λ id document.
    let own = c.as_bytes-id.result.now in
    let same = own_id c.args.tree.now c.in-Some.id.now own id c.in-Some.ensures (c.as_bytes-id.ensures.value ∙ c.as_str.ensures.text) document in
    let contents = store_contents c.args.store.now in
    let still = same_contents c.args.store.now c.find_held.new.store c.in-Ok-None.ensures.leaves.reads.same.same in
    small_new c.create_new.result _ _ c.find_held.ensures.honest _ _ contents (store_contents c.find_held.new.store)
    (store_contents c.create_new.new.store) still c.args.ids.now id
    (λ honest. meets_absent c.args.ids.now own id contents same c.in-Ok-None.field-0 (c.in-Ok-None.ensures.met honest) c.in-Ok-None.field-0-is)
    c.create_new.ensures.small

pub returns-in-Ok-None-clause-learns : goal.returns-in-Ok-None-clause-learns
returns-in-Ok-None-clause-learns g c = λ id document.
    let own = c.as_bytes-id.result.now in
    let same = own_id c.args.tree.now c.in-Some.id.now own id c.in-Some.ensures (c.as_bytes-id.ensures.value ∙ c.as_str.ensures.text) document in
    let contents = store_contents c.args.store.now in
    let still = same_contents c.args.store.now c.find_held.new.store c.in-Ok-None.ensures.leaves.reads.same.same in
    upserted_at own id same _ contents c.args.ids.now c.create_new.new.ids c.create_new.result
    (learns_upserted _ own contents c.args.ids.now c.find_held.new.ids c.create_new.new.ids c.find_held.ensures.learns
    (λ honest. meets_absent c.args.ids.now own own contents refl c.in-Ok-None.field-0 (c.in-Ok-None.ensures.met honest) c.in-Ok-None.field-0-is)
    c.create_new.result
    (puts_over _ _ still own c.find_held.new.ids c.create_new.new.ids c.create_new.result c.create_new.ensures.learns))

pub returns-in-Err-clause-learns : goal.returns-in-Err-clause-learns
returns-in-Err-clause-learns g c = λ id document.
    let own = c.as_bytes-id.result.now in
    let same = own_id c.args.tree.now c.in-Some.id.now own id c.in-Some.ensures (c.as_bytes-id.ensures.value ∙ c.as_str.ensures.text) document in
    learns_at own id same _ (store_contents c.args.store.now) c.args.ids.now c.find_held.new.ids c.find_held.ensures.learns

pub returns-in-Ok-None-clause-full : goal.returns-in-Ok-None-clause-full
returns-in-Ok-None-clause-full g c =
    let still = same_contents c.args.store.now c.find_held.new.store c.in-Ok-None.ensures.leaves.reads.same.same in
    full_told _ c.create_new.result (full_over _ _ still c.create_new.result c.create_new.ensures.full_only)

pub returns-in-Ok-Some-clause-full : goal.returns-in-Ok-Some-clause-full
returns-in-Ok-Some-clause-full g c = full_of_store _ c.replace_held-done.result c.replace_held-done.ensures.only
