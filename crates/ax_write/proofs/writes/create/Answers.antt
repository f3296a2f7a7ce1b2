-- A number that was found is that of a document of the id; else the creation is behind a look-up that only read.
use Rattle.std.proofs.Common.{sym, subst, ◌∙◌}
use Rattle.std.specs.Prelude.{IsTrue}
use Rattle.ax_container.specs.Writes.{creation, inserted}
use Rattle.ax_write.proofs.FoundNumbers.{conflict_is, insertion_is, number_absent, own_document, own_id}
use Rattle.ax_index.proofs.Unmoved.{same_contents}
use Rattle.ax_store.specs.Store.{store_contents}
use Rattle.ax_write.proofs.Learning.{created_at, learns_at, learns_created, puts_over}
use Rattle.ax_write.proofs.Meeting.{full_over, full_told, made_told, meets_conflict, meets_creation}
use Rattle.ax_write.proofs.Passing.{kept_by_look, leaves_conflict, leaves_failed, leaves_then, tells_failed, tells_then}
use Rattle.ax_write.proofs.Smallness.{small_created}
use Rattle.ax_write.proofs.writes.create.Goals as goal

pub returns-in-Ok-Some-clause-tells : goal.returns-in-Ok-Some-clause-tells
returns-in-Ok-Some-clause-tells g c = λ honest works before id holds document.
    let start = g.D.Disk.history c.args.disk.now (g.D.Disk.attached c.args.disk.now) in
    let mid = g.D.Disk.history c.find_number.new.disk (g.D.Disk.attached c.find_number.new.disk) in
    let own = c.as_bytes-id.result.now in
    let same = own_id c.args.tree.now c.in-Some.id.now own id c.in-Some.ensures (c.as_bytes-id.ensures.value ∙ c.as_str.ensures.text) document in (
      conflict_is c.args.tree.now before own id same c.in-Ok-Some.field-0-0
          (sym c.in-Ok-Some.field-0-is ∙ c.in-Ok-Some.ensures.number honest before holds),
      kept_by_look g.C.PageCache.pages c.args.store.now start mid before (c.requires.agrees honest works) holds.contents
          (c.in-Ok-Some.ensures.leaves.reads.lists honest) c.find_number.new.store c.find_number.new.ids
          (c.find_number.ensures.ids honest before holds),
    )

pub returns-in-Ok-Some-clause-met : goal.returns-in-Ok-Some-clause-met
returns-in-Ok-Some-clause-met g c = λ honest id document.
    let own = c.as_bytes-id.result.now in
    let same = own_id c.args.tree.now c.in-Some.id.now own id c.in-Some.ensures (c.as_bytes-id.ensures.value ∙ c.as_str.ensures.text) document in
    meets_conflict c.args.ids.now own id (store_contents c.args.store.now) same c.in-Ok-Some.field-0 (c.in-Ok-Some.ensures.met honest)
    c.in-Ok-Some.field-0-0 c.in-Ok-Some.field-0-is

pub returns-in-Ok-Some-clause-leaves : goal.returns-in-Ok-Some-clause-leaves
returns-in-Ok-Some-clause-leaves g c = leaves_conflict g.C.PageCache.pages _ _ _ _ _ _ _ c.in-Ok-Some.field-0 c.in-Ok-Some.ensures.leaves

pub returns-in-Ok-None-clause-tells : goal.returns-in-Ok-None-clause-tells
returns-in-Ok-None-clause-tells g c = λ honest works before id holds document.
    let start = g.D.Disk.history c.args.disk.now (g.D.Disk.attached c.args.disk.now) in
    let mid = g.D.Disk.history c.find_number.new.disk (g.D.Disk.attached c.find_number.new.disk) in
    let tree = c.args.tree.now in
    let own = c.as_bytes-id.result.now in
    let taken = c.as_bytes-id.ensures.value ∙ c.as_str.ensures.text in
    let same = own_id tree c.in-Some.id.now own id c.in-Some.ensures taken document in
    let none = number_absent own before (sym c.in-Ok-None.field-0-is ∙ c.in-Ok-None.ensures.number honest before holds) in
    tells_then g.C.PageCache.pages c.args.store.now start mid before (c.requires.agrees honest works) holds.contents
    (c.in-Ok-None.ensures.leaves.reads.lists honest) (g.D.Disk.history c.create_new.new.disk (g.D.Disk.attached c.create_new.new.disk))
    (inserted id tree before) (creation own tree before) c.create_new.result c.create_new.new.store c.create_new.new.ids
    (insertion_is tree before own id same none)
    (c.create_new.ensures.tells (subst IsTrue (sym c.find_number.ensures.honest) honest) (c.in-Ok-None.ensures.leaves.fails ∙ works) before
    (c.find_number.ensures.ids honest before holds) (own_document tree c.in-Some.id.now own c.in-Some.ensures taken) none)

pub returns-in-Ok-None-clause-met : goal.returns-in-Ok-None-clause-met
returns-in-Ok-None-clause-met g c = λ honest id document.
    let own = c.as_bytes-id.result.now in
    let same = own_id c.args.tree.now c.in-Some.id.now own id c.in-Some.ensures (c.as_bytes-id.ensures.value ∙ c.as_str.ensures.text) document in
    let still = same_contents c.args.store.now c.find_number.new.store c.in-Ok-None.ensures.leaves.reads.same.same in
    meets_creation c.args.ids.now own id (store_contents c.args.store.now) same c.in-Ok-None.field-0 (c.in-Ok-None.ensures.met honest)
    c.in-Ok-None.field-0-is c.create_new.result (full_over _ _ still c.create_new.result c.create_new.ensures.full_only)

pub returns-in-Ok-None-clause-leaves : goal.returns-in-Ok-None-clause-leaves
returns-in-Ok-None-clause-leaves g c =
    leaves_then g.C.PageCache.pages _ c.in-Ok-None.field-0 _ c.find_number.ensures.honest c.create_new.result _ _ _ _ _ _ _ _ _
    c.in-Ok-None.ensures.leaves c.create_new.ensures.leaves

pub returns-in-Err-clause-tells : goal.returns-in-Err-clause-tells
returns-in-Err-clause-tells g c = λ honest works before id holds document.
    let start = g.D.Disk.history c.args.disk.now (g.D.Disk.attached c.args.disk.now) in
    let mid = g.D.Disk.history c.find_number.new.disk (g.D.Disk.attached c.find_number.new.disk) in
    tells_failed g.C.PageCache.pages c.args.store.now start mid before (c.requires.agrees honest works) holds.contents
    (c.in-Err.ensures.leaves.reads.lists honest) (inserted id c.args.tree.now before) c.find_number.new.store c.find_number.new.ids c.in-Err.fault
    (c.find_number.ensures.ids honest before holds) (c.in-Err.ensures.leaves.told honest)

pub returns-in-Err-clause-leaves : goal.returns-in-Err-clause-leaves
returns-in-Err-clause-leaves g c = leaves_failed g.C.PageCache.pages _ _ _ _ _ _ _ c.in-Err.fault c.in-Err.ensures.leaves

pub returns-in-Ok-Some-clause-learns : goal.returns-in-Ok-Some-clause-learns
returns-in-Ok-Some-clause-learns g c = λ id document.
    let own = c.as_bytes-id.result.now in
    let same = own_id c.args.tree.now c.in-Some.id.now own id c.in-Some.ensures (c.as_bytes-id.ensures.value ∙ c.as_str.ensures.text) document in
    learns_at own id same _ (store_contents c.args.store.now) c.args.ids.now c.find_number.new.ids c.find_number.ensures.learns

pub returns-in-Ok-None-clause-small : goal.returns-in-Ok-None-clause-small
returns-in-Ok-None-clause-small g c =
    small_created c.create_new.result _ _ c.find_number.ensures.honest _ _ (store_contents c.args.store.now)
    (store_contents c.find_number.new.store) (store_contents c.create_new.new.store)
    (same_contents c.args.store.now c.find_number.new.store c.in-Ok-None.ensures.leaves.reads.same.same) c.create_new.ensures.small

pub returns-in-Ok-None-clause-learns : goal.returns-in-Ok-None-clause-learns
returns-in-Ok-None-clause-learns g c = λ id document.
    let own = c.as_bytes-id.result.now in
    let same = own_id c.args.tree.now c.in-Some.id.now own id c.in-Some.ensures (c.as_bytes-id.ensures.value ∙ c.as_str.ensures.text) document in
    let contents = store_contents c.args.store.now in
    let still = same_contents c.args.store.now c.find_number.new.store c.in-Ok-None.ensures.leaves.reads.same.same in
    created_at own id same _ contents c.args.ids.now c.create_new.new.ids c.create_new.result
    (learns_created _ own contents c.args.ids.now c.find_number.new.ids c.create_new.new.ids c.find_number.ensures.learns c.create_new.result
    (puts_over _ _ still own c.find_number.new.ids c.create_new.new.ids c.create_new.result c.create_new.ensures.learns))

pub returns-in-Err-clause-learns : goal.returns-in-Err-clause-learns
returns-in-Err-clause-learns g c = λ id document.
    let own = c.as_bytes-id.result.now in
    let same = own_id c.args.tree.now c.in-Some.id.now own id c.in-Some.ensures (c.as_bytes-id.ensures.value ∙ c.as_str.ensures.text) document in
    learns_at own id same _ (store_contents c.args.store.now) c.args.ids.now c.find_number.new.ids c.find_number.ensures.learns

pub returns-in-Ok-None-clause-full : goal.returns-in-Ok-None-clause-full
returns-in-Ok-None-clause-full g c =
    let still = same_contents c.args.store.now c.find_number.new.store c.in-Ok-None.ensures.leaves.reads.same.same in
    full_told _ c.create_new.result (full_over _ _ still c.create_new.result c.create_new.ensures.full_only)

pub returns-in-Ok-None-clause-made : goal.returns-in-Ok-None-clause-made
returns-in-Ok-None-clause-made g c =
    let still = same_contents c.args.store.now c.find_number.new.store c.in-Ok-None.ensures.leaves.reads.same.same in
    made_told _ c.create_new.result (full_over _ _ still c.create_new.result c.create_new.ensures.full_only)
