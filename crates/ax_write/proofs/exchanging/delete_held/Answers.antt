-- The changes of a deletion are committed with those of the index behind them.
use Rattle.std.proofs.Common.{Some, None, Ok, Err, refl, sym, ap, subst, ◌∙◌}
use Rattle.ax_area.specs.Parts.{changes_said}
use Rattle.ax_container.specs.Writes.{deleted}
use Rattle.ax_image.proofs.ReadableWrites.{deleting_readable}
use Rattle.ax_image.specs.WriteChanges.{deleting_changes}
use Rattle.ax_store.proofs.StoreLemmas.{agrees_says}
use Rattle.ax_store.specs.Store.{store_contents}
use Rattle.ax_write.specs.Committed.{LeaveTerms}
use Rattle.ax_write.specs.Exchanged.{IsExchanged}
use Rattle.ax_write.specs.Small.{IsFound}
use Rattle.ax_write.proofs.Fronts.{deleting_beside}
use Rattle.ax_write.proofs.Learning.{forgets}
use Rattle.ax_write.proofs.Numbered.{recent_deleted}
use Rattle.ax_write.proofs.Owned.{deleted_carries}
use Rattle.ax_write.proofs.Saying.{deleting_said}
use Rattle.ax_write.proofs.Smallness.{small_batch, was_held}
use Rattle.ax_write.proofs.Tables.{is_known, is_used, table_deleted}
use Rattle.ax_write.proofs.Writing.{left_behind, still, told_made, told_unmade}
use Rattle.ax_write.proofs.exchanging.delete_held.Goals as goal

pub returns-in_default-clause-tells : goal.returns-in_default-clause-tells
returns-in_default-clause-tells g c = λ honest works before holds is. (
  holds,
  still c.args.store.now before _ (agrees_says g.C.PageCache.pages c.args.store.now _ (c.requires.agrees honest works)) holds.contents,
)

pub returns-in_default-deleted_pairs-clause-tells : goal.returns-in_default-deleted_pairs-clause-tells
returns-in_default-deleted_pairs-clause-tells g c = λ honest works before holds is. (
  holds,
  still c.args.store.now before _ (agrees_says g.C.PageCache.pages c.args.store.now _ (c.requires.agrees honest works)) holds.contents,
)

pub deleted_pairs-requires-clause-known : goal.deleted_pairs-requires-clause-known
deleted_pairs-requires-clause-known g c =
    is_known _ c.args.table.now (store_contents c.args.store.now) c.requires.table c.args.found.now c.requires.held

pub plan_and_commit-requires-clause-beside : goal.plan_and_commit-requires-clause-beside
plan_and_commit-requires-clause-beside g c =
    let contents = store_contents c.args.store.now in
    subst (λ parts. LeaveTerms parts contents) (sym c.in-Ok.ensures)
    (deleting_beside c.args.found.now.number contents c.requires.some)

pub note_deleted-requires-clause-known : goal.note_deleted-requires-clause-known
note_deleted-requires-clause-known g c =
    is_known _ c.args.table.now (store_contents c.args.store.now) c.requires.table c.args.found.now c.requires.held

pub note_deleted-requires-clause-used : goal.note_deleted-requires-clause-used
note_deleted-requires-clause-used g c =
    is_used _ c.args.table.now (store_contents c.args.store.now) c.requires.table c.args.found.now c.requires.held

pub returns-in-Ok-plan_and_commit-clause-tells : goal.returns-in-Ok-plan_and_commit-clause-tells
returns-in-Ok-plan_and_commit-clause-tells g c = λ honest works before holds is.
    let store = c.args.store.now in
    let contents = store_contents store in
    let table = c.args.table.now in
    let found = c.args.found.now in
    let front = deleting_changes found.number in
    let said = ap changes_said c.in-Ok.ensures ∙ deleting_said found.number c.requires.some in
    let exchanged = subst (IsExchanged table found.number found.document.policy (Some found.document.tree) table.current None)
    (sym c.as_slice.ensures.value) c.in-Ok-deleted_pairs.ensures in
    let of = agrees_says g.C.PageCache.pages store _ (c.requires.agrees honest works) in
    let may = g.met.D.Disk.reads_may_stay c.args.disk.now (g.D.Disk.attached c.args.disk.now) honest in
    told_made store before _ of holds.contents _ (deleted c.args.id.now before) c.as_slice.result.now front
    (deleted_carries _ table contents c.requires.table honest before holds.contents refl c.args.id.now found c.requires.held is
    c.as_slice.result.now exchanged)
    (c.plan_and_commit.ensures.any_moment honest works of.version of.told front (of.says.each _ may) said)
    c.plan_and_commit.new.store (Ok (deleted c.args.id.now before)) refl c.note_deleted.new.ids
    _ honest (c.in-Ok-plan_and_commit.ensures.made front said)
    (recent_deleted c.args.ids.now c.note_deleted.new.ids c.args.id.now before c.note_deleted.ensures.gone c.note_deleted.ensures.others holds.recent)

pub returns-in-Ok-plan_and_commit-clause-table : goal.returns-in-Ok-plan_and_commit-clause-table
returns-in-Ok-plan_and_commit-clause-table g c =
    let store = c.args.store.now in
    let contents = store_contents store in
    let table = c.args.table.now in
    let found = c.args.found.now in
    let front = deleting_changes found.number in
    let said = ap changes_said c.in-Ok.ensures ∙ deleting_said found.number c.requires.some in
    table_deleted _ table contents c.requires.table found c.requires.held _ c.as_slice.result.now _ c.note_deleted.new.table
    (c.in-Ok-plan_and_commit.ensures.made front said) c.note_deleted.ensures.counts

pub returns-in-Ok-plan_and_commit-clause-small : goal.returns-in-Ok-plan_and_commit-clause-small
returns-in-Ok-plan_and_commit-clause-small g c =
    let contents = store_contents c.args.store.now in
    let table = c.args.table.now in
    let found = c.args.found.now in
    small_batch (IsFound found) _ table found.number found.document.policy table.current (Some found.document.tree) None _ _ _ contents _
    (refl, refl) (was_held _ contents found c.requires.held c.requires.text) c.in-Ok-deleted_pairs.ensures c.as_slice.ensures.value refl c.in-Ok.ensures
    c.in-Ok-plan_and_commit.ensures.planned

pub returns-in-Ok-plan_and_commit-clause-leaves : goal.returns-in-Ok-plan_and_commit-clause-leaves
returns-in-Ok-plan_and_commit-clause-leaves g c =
    let store = c.args.store.now in
    let found = c.args.found.now in
    let front = deleting_changes found.number in
    let said = ap changes_said c.in-Ok.ensures ∙ deleting_said found.number c.requires.some in
    left_behind g.C.PageCache.pages _ store c.plan_and_commit.new.store _ _ _ _ (Ok tt) tt
    (λ honest works set index rests.
    c.plan_and_commit.ensures.readable honest works front set said (deleting_readable found.number) index rests)
    (λ honest. tt) (λ honest. tt) c.in-Ok-plan_and_commit.ensures.fails c.plan_and_commit.ensures.agrees c.plan_and_commit.ensures.slots
    c.plan_and_commit.ensures.others c.plan_and_commit.ensures.area c.in-Ok-plan_and_commit.ensures.cause c.plan_and_commit.ensures.never_falls

pub returns-clause-tells : goal.returns-clause-tells
returns-clause-tells g c = λ honest works before holds is.
    let store = c.args.store.now in
    let contents = store_contents store in
    let table = c.args.table.now in
    let found = c.args.found.now in
    let front = deleting_changes found.number in
    let said = ap changes_said c.in-Ok.ensures ∙ deleting_said found.number c.requires.some in
    let exchanged = subst (IsExchanged table found.number found.document.policy (Some found.document.tree) table.current None)
    (sym c.as_slice.ensures.value) c.in-Ok-deleted_pairs.ensures in
    let of = agrees_says g.C.PageCache.pages store _ (c.requires.agrees honest works) in
    let may = g.met.D.Disk.reads_may_stay c.args.disk.now (g.D.Disk.attached c.args.disk.now) honest in
    told_unmade store before _ of holds.contents _ (deleted c.args.id.now before) c.as_slice.result.now front
    (deleted_carries _ table contents c.requires.table honest before holds.contents refl c.args.id.now found c.requires.held is
    c.as_slice.result.now exchanged)
    (c.plan_and_commit.ensures.any_moment honest works of.version of.told front (of.says.each _ may) said)
    c.plan_and_commit.new.store (Ok (deleted c.args.id.now before)) refl c.args.ids.now
    c.in-Err.fault c.in-Err.ensures.kept (c.in-Err.ensures.damage honest) (c.in-Err.ensures.untouched honest) holds.recent

pub returns-clause-leaves : goal.returns-clause-leaves
returns-clause-leaves g c =
    let store = c.args.store.now in
    let found = c.args.found.now in
    let front = deleting_changes found.number in
    let said = ap changes_said c.in-Ok.ensures ∙ deleting_said found.number c.requires.some in
    left_behind g.C.PageCache.pages _ store c.plan_and_commit.new.store _ _ _ _ (Err c.in-Err.fault) c.in-Err.ensures.kept
    (λ honest works set index rests.
    c.plan_and_commit.ensures.readable honest works front set said (deleting_readable found.number) index rests)
    c.in-Err.ensures.untouched c.in-Err.ensures.damage c.in-Err.ensures.fails c.plan_and_commit.ensures.agrees c.plan_and_commit.ensures.slots
    c.plan_and_commit.ensures.others c.plan_and_commit.ensures.area c.in-Err.ensures.cause c.plan_and_commit.ensures.never_falls

pub returns-in-Ok-plan_and_commit-clause-learns : goal.returns-in-Ok-plan_and_commit-clause-learns
returns-in-Ok-plan_and_commit-clause-learns g c =
    forgets c.args.id.now c.args.ids.now c.note_deleted.new.ids c.note_deleted.ensures.gone c.note_deleted.ensures.others
