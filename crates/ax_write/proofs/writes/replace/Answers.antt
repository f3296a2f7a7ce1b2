-- The replacement is behind a look-up that only read; where the id is not held, nothing is behind it.
use Rattle.std.proofs.Common.{Ok, sym, subst, ◌∙◌}
use Rattle.std.specs.Prelude.{IsTrue}
use Rattle.ax_container.specs.Writes.{exchanged, replaced}
use Rattle.ax_write.proofs.FoundNumbers.{exchange_is, found_is, no_exchange, none_is, own_document, own_id}
use Rattle.ax_index.proofs.Unmoved.{same_contents}
use Rattle.ax_store.specs.Store.{store_contents}
use Rattle.ax_write.proofs.Learning.{learns_at}
use Rattle.ax_write.proofs.Meeting.{meets_absent, meets_held, told_found}
use Rattle.ax_write.proofs.Passing.{kept_by_look, leaves_absent, leaves_failed, leaves_then, tells_failed, tells_then}
use Rattle.ax_write.proofs.Smallness.{small_told}
use Rattle.ax_write.proofs.writes.replace.Goals as goal

pub returns-in-Ok-Some-clause-tells : goal.returns-in-Ok-Some-clause-tells
returns-in-Ok-Some-clause-tells g c = λ honest works before id holds document.
    let start = g.D.Disk.history c.args.disk.now (g.D.Disk.attached c.args.disk.now) in
    let mid = g.D.Disk.history c.find_held.new.disk (g.D.Disk.attached c.find_held.new.disk) in
    let tree = c.args.tree.now in
    let own = c.as_bytes-id.result.now in
    let taken = c.as_bytes-id.ensures.value ∙ c.as_str.ensures.text in
    let same = own_id tree c.in-Some.id.now own id c.in-Some.ensures taken document in
    let found = found_is own before c.in-Ok-Some.field-0 c.in-Ok-Some.found c.in-Ok-Some.field-0-is
    (c.in-Ok-Some.ensures.found honest before holds) in
    tells_then g.C.PageCache.pages c.args.store.now start mid before (c.requires.agrees honest works) holds.contents
    (c.in-Ok-Some.ensures.leaves.reads.lists honest) (g.D.Disk.history c.replace_held-done.new.disk (g.D.Disk.attached c.replace_held-done.new.disk))
    (exchanged id tree before) (Ok (replaced own tree before)) c.replace_held-done.result c.replace_held-done.new.store c.find_held.new.ids
    (exchange_is tree before own id same c.in-Ok-Some.found found)
    (c.replace_held-done.ensures.tells (subst IsTrue (sym c.find_held.ensures.honest) honest) (c.in-Ok-Some.ensures.leaves.fails ∙ works)
    before c.find_held.new.ids own (c.find_held.ensures.ids honest before holds) (own_document tree c.in-Some.id.now own c.in-Some.ensures taken)
    found)

pub returns-in-Ok-Some-clause-met : goal.returns-in-Ok-Some-clause-met
returns-in-Ok-Some-clause-met g c = λ honest id document.
    let own = c.as_bytes-id.result.now in
    let same = own_id c.args.tree.now c.in-Some.id.now own id c.in-Some.ensures (c.as_bytes-id.ensures.value ∙ c.as_str.ensures.text) document in
    meets_held c.args.ids.now own id (store_contents c.args.store.now) same c.in-Ok-Some.field-0 (c.in-Ok-Some.ensures.met honest)
    c.in-Ok-Some.found c.in-Ok-Some.field-0-is c.replace_held-done.result c.replace_held-done.ensures.only

pub returns-in-Ok-Some-clause-leaves : goal.returns-in-Ok-Some-clause-leaves
returns-in-Ok-Some-clause-leaves g c =
    leaves_then g.C.PageCache.pages _ c.in-Ok-Some.field-0 _ c.find_held.ensures.honest c.replace_held-done.result _ _ _ _ _ _ _ _ _
    c.in-Ok-Some.ensures.leaves c.replace_held-done.ensures.leaves

pub returns-in-Ok-None-clause-tells : goal.returns-in-Ok-None-clause-tells
returns-in-Ok-None-clause-tells g c = λ honest works before id holds document.
    let start = g.D.Disk.history c.args.disk.now (g.D.Disk.attached c.args.disk.now) in
    let mid = g.D.Disk.history c.find_held.new.disk (g.D.Disk.attached c.find_held.new.disk) in
    let tree = c.args.tree.now in
    let own = c.as_bytes-id.result.now in
    let taken = c.as_bytes-id.ensures.value ∙ c.as_str.ensures.text in
    let same = own_id tree c.in-Some.id.now own id c.in-Some.ensures taken document in (
      no_exchange tree before own id same
          (none_is own before c.in-Ok-None.field-0 c.in-Ok-None.field-0-is (c.in-Ok-None.ensures.found honest before holds)),
      kept_by_look g.C.PageCache.pages c.args.store.now start mid before (c.requires.agrees honest works) holds.contents
          (c.in-Ok-None.ensures.leaves.reads.lists honest) c.find_held.new.store c.find_held.new.ids (c.find_held.ensures.ids honest before holds),
    )

pub returns-in-Ok-None-clause-met : goal.returns-in-Ok-None-clause-met
returns-in-Ok-None-clause-met g c = λ honest id document.
    let own = c.as_bytes-id.result.now in
    let same = own_id c.args.tree.now c.in-Some.id.now own id c.in-Some.ensures (c.as_bytes-id.ensures.value ∙ c.as_str.ensures.text) document in
    meets_absent c.args.ids.now own id (store_contents c.args.store.now) same c.in-Ok-None.field-0 (c.in-Ok-None.ensures.met honest)
    c.in-Ok-None.field-0-is

pub returns-in-Ok-None-clause-leaves : goal.returns-in-Ok-None-clause-leaves
returns-in-Ok-None-clause-leaves g c = leaves_absent g.C.PageCache.pages _ _ _ _ _ _ _ c.in-Ok-None.field-0 c.in-Ok-None.ensures.leaves

pub returns-in-Err-clause-tells : goal.returns-in-Err-clause-tells
returns-in-Err-clause-tells g c = λ honest works before id holds document.
    let start = g.D.Disk.history c.args.disk.now (g.D.Disk.attached c.args.disk.now) in
    let mid = g.D.Disk.history c.find_held.new.disk (g.D.Disk.attached c.find_held.new.disk) in
    tells_failed g.C.PageCache.pages c.args.store.now start mid before (c.requires.agrees honest works) holds.contents
    (c.in-Err.ensures.leaves.reads.lists honest) (exchanged id c.args.tree.now before) c.find_held.new.store c.find_held.new.ids c.in-Err.fault
    (c.find_held.ensures.ids honest before holds) (c.in-Err.ensures.leaves.told honest)

pub returns-in-Err-clause-leaves : goal.returns-in-Err-clause-leaves
returns-in-Err-clause-leaves g c = leaves_failed g.C.PageCache.pages _ _ _ _ _ _ _ c.in-Err.fault c.in-Err.ensures.leaves

pub returns-in-Ok-Some-clause-small : goal.returns-in-Ok-Some-clause-small
returns-in-Ok-Some-clause-small g c = λ id document.
    let own = c.as_bytes-id.result.now in
    let same = own_id c.args.tree.now c.in-Some.id.now own id c.in-Some.ensures (c.as_bytes-id.ensures.value ∙ c.as_str.ensures.text) document in
    let contents = store_contents c.args.store.now in
    small_told c.replace_held-done.result _ _ c.find_held.ensures.honest _ _ contents (store_contents c.find_held.new.store)
    (store_contents c.replace_held-done.new.store)
    (same_contents c.args.store.now c.find_held.new.store c.in-Ok-Some.ensures.leaves.reads.same.same) c.args.ids.now id c.in-Ok-Some.found
    (λ honest. told_found c.args.ids.now own id contents same c.in-Ok-Some.field-0 c.in-Ok-Some.found c.in-Ok-Some.field-0-is
    (c.in-Ok-Some.ensures.number honest))
    c.replace_held-done.ensures.small

pub returns-in-Ok-Some-clause-learns : goal.returns-in-Ok-Some-clause-learns
returns-in-Ok-Some-clause-learns g c = λ id document.
    let own = c.as_bytes-id.result.now in
    let same = own_id c.args.tree.now c.in-Some.id.now own id c.in-Some.ensures (c.as_bytes-id.ensures.value ∙ c.as_str.ensures.text) document in
    learns_at own id same _ (store_contents c.args.store.now) c.args.ids.now c.find_held.new.ids c.find_held.ensures.learns

pub returns-in-Ok-None-clause-learns : goal.returns-in-Ok-None-clause-learns
returns-in-Ok-None-clause-learns g c = λ id document.
    let own = c.as_bytes-id.result.now in
    let same = own_id c.args.tree.now c.in-Some.id.now own id c.in-Some.ensures (c.as_bytes-id.ensures.value ∙ c.as_str.ensures.text) document in
    learns_at own id same _ (store_contents c.args.store.now) c.args.ids.now c.find_held.new.ids c.find_held.ensures.learns

pub returns-in-Err-clause-learns : goal.returns-in-Err-clause-learns
returns-in-Err-clause-learns g c = λ id document.
    let own = c.as_bytes-id.result.now in
    let same = own_id c.args.tree.now c.in-Some.id.now own id c.in-Some.ensures (c.as_bytes-id.ensures.value ∙ c.as_str.ensures.text) document in
    learns_at own id same _ (store_contents c.args.store.now) c.args.ids.now c.find_held.new.ids c.find_held.ensures.learns
