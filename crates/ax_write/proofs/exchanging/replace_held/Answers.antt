-- The changes of a document that gets another tree are committed with those of the index behind them.
use Rattle.std.proofs.Common.{Some, Ok, Err, refl, sym, ap, subst, ◌∙◌}
use Rattle.ax_area.specs.Parts.{changes_said}
use Rattle.ax_container.specs.Writes.{replaced}
use Rattle.ax_image.proofs.ReadableWrites.{replacing_readable}
use Rattle.ax_image.specs.WriteChanges.{replacing_changes}
use Rattle.ax_store.proofs.StoreLemmas.{agrees_says}
use Rattle.ax_store.specs.Store.{store_contents}
use Rattle.ax_write.specs.Committed.{LeaveTerms}
use Rattle.ax_write.specs.Exchanged.{IsExchanged}
use Rattle.ax_write.specs.Small.{IsFound}
use Rattle.ax_write.proofs.Numbered.{recent_replaced}
use Rattle.ax_write.proofs.Owned.{replaced_carries}
use Rattle.ax_write.proofs.Saying.{replacing_said}
use Rattle.ax_write.proofs.Smallness.{small_batch, was_held}
use Rattle.ax_write.proofs.Tables.{is_known, is_used, replace_beside, room_for, table_replaced}
use Rattle.ax_write.proofs.Writing.{left_behind, still, told_made, told_unmade}
use Rattle.ax_write.proofs.exchanging.replace_held.Goals as goal

pub returns-in_default-clause-tells : goal.returns-in_default-clause-tells
returns-in_default-clause-tells g c = λ honest works before ids id holds own is. (
  holds,
  still c.args.store.now before _ (agrees_says g.C.PageCache.pages c.args.store.now _ (c.requires.agrees honest works)) holds.contents,
)

pub returns-in_default-replaced_pairs-clause-tells : goal.returns-in_default-replaced_pairs-clause-tells
returns-in_default-replaced_pairs-clause-tells g c = λ honest works before ids id holds own is. (
  holds,
  still c.args.store.now before _ (agrees_says g.C.PageCache.pages c.args.store.now _ (c.requires.agrees honest works)) holds.contents,
)

pub replaced_pairs-requires-clause-known : goal.replaced_pairs-requires-clause-known
replaced_pairs-requires-clause-known g c =
    is_known _ c.args.table.now (store_contents c.args.store.now) c.requires.table c.args.found.now c.requires.held

pub plan_and_commit-requires-clause-beside : goal.plan_and_commit-requires-clause-beside
plan_and_commit-requires-clause-beside g c =
    let contents = store_contents c.args.store.now in
    subst (λ parts. LeaveTerms parts contents) (sym c.in-Ok.ensures)
    (replace_beside _ c.args.table.now contents c.requires.table refl c.now-now.result c.now-now.ensures.current c.args.found.now c.requires.held
    c.args.tree.now c.requires.some)

pub count_out-requires-clause-given : goal.count_out-requires-clause-given
count_out-requires-clause-given g c =
    is_known _ c.args.table.now (store_contents c.args.store.now) c.requires.table c.args.found.now c.requires.held

pub count_out-requires-clause-used : goal.count_out-requires-clause-used
count_out-requires-clause-used g c =
    is_used _ c.args.table.now (store_contents c.args.store.now) c.requires.table c.args.found.now c.requires.held

pub count_in-requires-clause-room : goal.count_in-requires-clause-room
count_in-requires-clause-room g c =
    room_for _ c.args.table.now (store_contents c.args.store.now) c.requires.table c.args.found.now c.requires.held _ c.count_out.ensures
    c.now-now.result

pub returns-in-Ok-plan_and_commit-clause-tells : goal.returns-in-Ok-plan_and_commit-clause-tells
returns-in-Ok-plan_and_commit-clause-tells g c = λ honest works before ids id holds own is.
    let store = c.args.store.now in
    let contents = store_contents store in
    let table = c.args.table.now in
    let found = c.args.found.now in
    let tree = c.args.tree.now in
    let now = c.now-now.result in
    let front = replacing_changes found.number now tree in
    let said = ap changes_said c.in-Ok.ensures ∙ replacing_said found.number now tree c.requires.some in
    let exchanged = subst (IsExchanged table found.number found.document.policy (Some found.document.tree) table.current (Some tree))
    (sym c.as_slice.ensures.value) c.in-Ok-replaced_pairs.ensures in
    let of = agrees_says g.C.PageCache.pages store _ (c.requires.agrees honest works) in
    let may = g.met.D.Disk.reads_may_stay c.args.disk.now (g.D.Disk.attached c.args.disk.now) honest in
    told_made store before _ of holds.contents _ (replaced id tree before) c.as_slice.result.now front
    (replaced_carries _ table contents c.requires.table honest before holds.contents refl id found c.requires.held is c.as_slice.result.now tree now
    c.now-now.ensures.current own c.requires.storable exchanged)
    (c.plan_and_commit.ensures.any_moment honest works of.version of.told front (of.says.each _ may) said)
    c.plan_and_commit.new.store (Ok (replaced id tree before)) refl ids
    _ honest (c.in-Ok-plan_and_commit.ensures.made front said) (recent_replaced ids id tree before holds.recent)

pub returns-in-Ok-plan_and_commit-clause-table : goal.returns-in-Ok-plan_and_commit-clause-table
returns-in-Ok-plan_and_commit-clause-table g c =
    let store = c.args.store.now in
    let contents = store_contents store in
    let table = c.args.table.now in
    let found = c.args.found.now in
    let tree = c.args.tree.now in
    let now = c.now-now.result in
    let front = replacing_changes found.number now tree in
    let said = ap changes_said c.in-Ok.ensures ∙ replacing_said found.number now tree c.requires.some in
    table_replaced _ table contents c.requires.table refl now c.now-now.ensures.current found c.requires.held _ c.as_slice.result.now _
    c.count_out.new.self c.count_in.new.self tree (c.in-Ok-plan_and_commit.ensures.made front said) c.count_out.ensures c.count_in.ensures

pub returns-in-Ok-plan_and_commit-clause-small : goal.returns-in-Ok-plan_and_commit-clause-small
returns-in-Ok-plan_and_commit-clause-small g c =
    let contents = store_contents c.args.store.now in
    let table = c.args.table.now in
    let found = c.args.found.now in
    let tree = c.args.tree.now in
    let now = c.now-now.result in
    small_batch (IsFound found) _ table found.number found.document.policy now (Some found.document.tree) (Some tree) _ _ _ contents _
    (refl, refl) (was_held _ contents found c.requires.held c.requires.text) c.in-Ok-replaced_pairs.ensures c.as_slice.ensures.value c.now-now.ensures.current
    c.in-Ok.ensures c.in-Ok-plan_and_commit.ensures.planned

pub returns-in-Ok-plan_and_commit-clause-leaves : goal.returns-in-Ok-plan_and_commit-clause-leaves
returns-in-Ok-plan_and_commit-clause-leaves g c =
    let store = c.args.store.now in
    let found = c.args.found.now in
    let tree = c.args.tree.now in
    let now = c.now-now.result in
    let front = replacing_changes found.number now tree in
    let said = ap changes_said c.in-Ok.ensures ∙ replacing_said found.number now tree c.requires.some in
    left_behind g.C.PageCache.pages _ store c.plan_and_commit.new.store _ _ _ _ (Ok tt) tt
    (λ honest works set index rests.
    c.plan_and_commit.ensures.readable honest works front set said (replacing_readable found.number now tree c.requires.storable) index rests)
    (λ honest. tt) (λ honest. tt) c.in-Ok-plan_and_commit.ensures.fails c.plan_and_commit.ensures.agrees c.plan_and_commit.ensures.slots
    c.plan_and_commit.ensures.others c.plan_and_commit.ensures.area c.in-Ok-plan_and_commit.ensures.cause c.plan_and_commit.ensures.never_falls

pub returns-clause-tells : goal.returns-clause-tells
returns-clause-tells g c = λ honest works before ids id holds own is.
    let store = c.args.store.now in
    let contents = store_contents store in
    let table = c.args.table.now in
    let found = c.args.found.now in
    let tree = c.args.tree.now in
    let now = c.now-now.result in
    let front = replacing_changes found.number now tree in
    let said = ap changes_said c.in-Ok.ensures ∙ replacing_said found.number now tree c.requires.some in
    let exchanged = subst (IsExchanged table found.number found.document.policy (Some found.document.tree) table.current (Some tree))
    (sym c.as_slice.ensures.value) c.in-Ok-replaced_pairs.ensures in
    let of = agrees_says g.C.PageCache.pages store _ (c.requires.agrees honest works) in
    let may = g.met.D.Disk.reads_may_stay c.args.disk.now (g.D.Disk.attached c.args.disk.now) honest in
    told_unmade store before _ of holds.contents _ (replaced id tree before) c.as_slice.result.now front
    (replaced_carries _ table contents c.requires.table honest before holds.contents refl id found c.requires.held is c.as_slice.result.now tree now
    c.now-now.ensures.current own c.requires.storable exchanged)
    (c.plan_and_commit.ensures.any_moment honest works of.version of.told front (of.says.each _ may) said)
    c.plan_and_commit.new.store (Ok (replaced id tree before)) refl ids
    c.in-Err.fault c.in-Err.ensures.kept (c.in-Err.ensures.damage honest) (c.in-Err.ensures.untouched honest) holds.recent

pub returns-clause-leaves : goal.returns-clause-leaves
returns-clause-leaves g c =
    let store = c.args.store.now in
    let found = c.args.found.now in
    let tree = c.args.tree.now in
    let now = c.now-now.result in
    let front = replacing_changes found.number now tree in
    let said = ap changes_said c.in-Ok.ensures ∙ replacing_said found.number now tree c.requires.some in
    left_behind g.C.PageCache.pages _ store c.plan_and_commit.new.store _ _ _ _ (Err c.in-Err.fault) c.in-Err.ensures.kept
    (λ honest works set index rests.
    c.plan_and_commit.ensures.readable honest works front set said (replacing_readable found.number now tree c.requires.storable) index rests)
    c.in-Err.ensures.untouched c.in-Err.ensures.damage c.in-Err.ensures.fails c.plan_and_commit.ensures.agrees c.plan_and_commit.ensures.slots
    c.plan_and_commit.ensures.others c.plan_and_commit.ensures.area c.in-Err.ensures.cause c.plan_and_commit.ensures.never_falls
