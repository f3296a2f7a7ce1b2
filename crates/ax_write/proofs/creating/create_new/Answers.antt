-- A creation is refused, or its changes are committed with those of the index behind them.
use Rattle.std.proofs.Common.{◌≡◌, ℕ, false, None, Some, Ok, Err, refl, sym, ap, subst, ◌∙◌, arith}
use Rattle.std.specs.FinMap as finite
use Rattle.ax_area.specs.Parts.{changes_said}
use Rattle.ax_container.specs.Writes.{created, creation}
use Rattle.ax_image.proofs.ReadableWrites.{creating_readable}
use Rattle.ax_image.specs.WriteChanges.{creating_changes}
use Rattle.ax_store.proofs.StoreLemmas.{agrees_says}
use Rattle.ax_store.specs.Store.{store_contents}
use Rattle.ax_table.proofs.Agreeing.{room_created}
use Rattle.ax_write.specs.Committed.{LeaveTerms}
use Rattle.ax_write.specs.Exchanged.{IsExchanged}
use Rattle.ax_write.specs.Full.{is_full_of}
use Rattle.ax_write.specs.Learnt.{Puts}
use Rattle.ax_write.specs.Small.{IsNew}
use Rattle.ax_write.proofs.Fullness.{can_create, creates, full_same, never_full, refuses}
use Rattle.ax_write.proofs.Numbered.{recent_created}
use Rattle.ax_write.proofs.Owned.{created_carries}
use Rattle.ax_write.proofs.Saying.{creating_said}
use Rattle.ax_write.proofs.Smallness.{small_batch}
use Rattle.ax_write.proofs.Tables.{create_beside, table_created}
use Rattle.ax_write.proofs.Writing.{left_behind, still, told_made, told_unmade}
use Rattle.ax_write.proofs.creating.create_new.Goals as goal

pub returns-then-is_full-clause-tells : goal.returns-then-is_full-clause-tells
returns-then-is_full-clause-tells g c = λ honest works before holds own absent. (
  refuses (store_contents c.args.store.now) before holds.contents.documents c.args.id.now c.args.tree.now
      (sym c.is_full.ensures ∙ c.if-is_full.true),
  (holds, still c.args.store.now before _ (agrees_says g.C.PageCache.pages c.args.store.now _ (c.requires.agrees honest works)) holds.contents),
)

pub returns-in_default-clause-tells : goal.returns-in_default-clause-tells
returns-in_default-clause-tells g c = λ honest works before holds own absent. (
  holds,
  still c.args.store.now before _ (agrees_says g.C.PageCache.pages c.args.store.now _ (c.requires.agrees honest works)) holds.contents,
)

pub returns-in_default-clause-full : goal.returns-in_default-clause-full
returns-in_default-clause-full g c = λ before hold full.
    never_full (store_contents c.args.store.now) before (sym c.is_full.ensures ∙ c.if-is_full.false) hold.documents full

pub returns-in_default-created_pairs-clause-tells : goal.returns-in_default-created_pairs-clause-tells
returns-in_default-created_pairs-clause-tells g c = λ honest works before holds own absent. (
  holds,
  still c.args.store.now before _ (agrees_says g.C.PageCache.pages c.args.store.now _ (c.requires.agrees honest works)) holds.contents,
)

pub returns-in_default-created_pairs-clause-full : goal.returns-in_default-created_pairs-clause-full
returns-in_default-created_pairs-clause-full g c = λ before hold full.
    never_full (store_contents c.args.store.now) before (sym c.is_full.ensures ∙ c.if-is_full.false) hold.documents full

pub plan_and_commit-requires-clause-beside : goal.plan_and_commit-requires-clause-beside
plan_and_commit-requires-clause-beside g c =
    let contents = store_contents c.args.store.now in
    subst (λ parts. LeaveTerms parts contents) (sym c.in-Ok.ensures)
    (create_beside _ c.args.table.now contents c.requires.table refl c.now-now.result c.now-now.ensures.current
    c.meta-number.result.next c.args.tree.now (can_create contents (sym c.is_full.ensures ∙ c.if-is_full.false)) c.meta-number.ensures.next
    (omega (arith)))

pub note_created-requires : goal.note_created-requires
note_created-requires g c =
    let contents = store_contents c.args.store.now in
    let can = can_create contents (sym c.is_full.ensures ∙ c.if-is_full.false) in
    record { room = room_created _ c.args.table.now contents c.requires.table can.few c.args.table.now.current }

pub returns-in-Ok-plan_and_commit-clause-tells : goal.returns-in-Ok-plan_and_commit-clause-tells
returns-in-Ok-plan_and_commit-clause-tells g c = λ honest works before holds own absent.
    let store = c.args.store.now in
    let contents = store_contents store in
    let table = c.args.table.now in
    let id = c.args.id.now in
    let tree = c.args.tree.now in
    let number = c.meta-number.result.next in
    let now = c.now-now.result in
    let space : is_full_of contents ≡ false = sym c.is_full.ensures ∙ c.if-is_full.false in
    let can = can_create contents space in
    let next = c.meta-number.ensures.next in
    let front = creating_changes number now tree in
    let said = ap changes_said c.in-Ok.ensures
    ∙ creating_said number now tree (omega (arith, can.some, next)) (omega (arith, can.left, next)) (omega arith) in
    let exchanged = subst (IsExchanged table number table.current None table.current (Some tree)) (sym c.as_slice.ensures.value)
    c.in-Ok-created_pairs.ensures in
    let of = agrees_says g.C.PageCache.pages store _ (c.requires.agrees honest works) in
    let may = g.met.D.Disk.reads_may_stay c.args.disk.now (g.D.Disk.attached c.args.disk.now) honest in
    told_made store before _ of holds.contents _ (created id tree before) c.as_slice.result.now front
    (created_carries _ table contents c.requires.table honest before holds.contents refl id tree number now c.as_slice.result.now next
    c.now-now.ensures.current own c.requires.storable absent (sym (full_same contents before holds.contents.documents) ∙ space) exchanged)
    (c.plan_and_commit.ensures.any_moment honest works of.version of.told front (of.says.each _ may) said)
    c.plan_and_commit.new.store (creation id tree before) (creates contents before holds.contents.documents id tree space) c.note_created.new.ids
    _ honest (c.in-Ok-plan_and_commit.ensures.made front said)
    (recent_created c.args.ids.now c.note_created.new.ids id number tree before absent (next ∙ holds.contents.documents.show.next)
    c.note_created.ensures.ids.1 holds.recent)

pub returns-in-Ok-plan_and_commit-clause-full : goal.returns-in-Ok-plan_and_commit-clause-full
returns-in-Ok-plan_and_commit-clause-full g c = λ before hold full.
    never_full (store_contents c.args.store.now) before (sym c.is_full.ensures ∙ c.if-is_full.false) hold.documents full

pub returns-in-Ok-plan_and_commit-clause-table : goal.returns-in-Ok-plan_and_commit-clause-table
returns-in-Ok-plan_and_commit-clause-table g c =
    let store = c.args.store.now in
    let contents = store_contents store in
    let tree = c.args.tree.now in
    let number = c.meta-number.result.next in
    let now = c.now-now.result in
    let can = can_create contents (sym c.is_full.ensures ∙ c.if-is_full.false) in
    let next = c.meta-number.ensures.next in
    let front = creating_changes number now tree in
    let said = ap changes_said c.in-Ok.ensures
    ∙ creating_said number now tree (omega (arith, can.some, next)) (omega (arith, can.left, next)) (omega arith) in
    table_created _ c.args.table.now contents c.requires.table refl now c.now-now.ensures.current _ c.as_slice.result.now _
    c.note_created.new.table number tree can next (c.in-Ok-plan_and_commit.ensures.made front said) c.note_created.ensures.counts

pub returns-in-Ok-plan_and_commit-clause-small : goal.returns-in-Ok-plan_and_commit-clause-small
returns-in-Ok-plan_and_commit-clause-small g c =
    let contents = store_contents c.args.store.now in
    let table = c.args.table.now in
    let tree = c.args.tree.now in
    let number = c.meta-number.result.next in
    let now = c.now-now.result in
    let can = can_create contents (sym c.is_full.ensures ∙ c.if-is_full.false) in
    let next = c.meta-number.ensures.next in
    small_batch (IsNew contents) _ table number table.current now None (Some tree) _ _ _ contents _ next
    (next, ap (finite.get contents.documents) next ∙ can.none) c.in-Ok-created_pairs.ensures c.as_slice.ensures.value
    c.now-now.ensures.current c.in-Ok.ensures c.in-Ok-plan_and_commit.ensures.planned

pub returns-in-Ok-plan_and_commit-clause-leaves : goal.returns-in-Ok-plan_and_commit-clause-leaves
returns-in-Ok-plan_and_commit-clause-leaves g c =
    let store = c.args.store.now in
    let contents = store_contents store in
    let tree = c.args.tree.now in
    let number = c.meta-number.result.next in
    let now = c.now-now.result in
    let can = can_create contents (sym c.is_full.ensures ∙ c.if-is_full.false) in
    let next = c.meta-number.ensures.next in
    let front = creating_changes number now tree in
    let said = ap changes_said c.in-Ok.ensures
    ∙ creating_said number now tree (omega (arith, can.some, next)) (omega (arith, can.left, next)) (omega arith) in
    left_behind g.C.PageCache.pages _ store c.plan_and_commit.new.store _ _ _ _ (Ok tt) tt
    (λ honest works set index rests.
    c.plan_and_commit.ensures.readable honest works front set said (creating_readable number now tree c.requires.storable) index rests)
    (λ honest. tt) (λ honest. tt) c.in-Ok-plan_and_commit.ensures.fails c.plan_and_commit.ensures.agrees
    c.plan_and_commit.ensures.slots c.plan_and_commit.ensures.others
    c.plan_and_commit.ensures.area c.in-Ok-plan_and_commit.ensures.cause c.plan_and_commit.ensures.never_falls

pub returns-clause-tells : goal.returns-clause-tells
returns-clause-tells g c = λ honest works before holds own absent.
    let store = c.args.store.now in
    let contents = store_contents store in
    let table = c.args.table.now in
    let id = c.args.id.now in
    let tree = c.args.tree.now in
    let number = c.meta-number.result.next in
    let now = c.now-now.result in
    let space : is_full_of contents ≡ false = sym c.is_full.ensures ∙ c.if-is_full.false in
    let can = can_create contents space in
    let next = c.meta-number.ensures.next in
    let front = creating_changes number now tree in
    let said = ap changes_said c.in-Ok.ensures
    ∙ creating_said number now tree (omega (arith, can.some, next)) (omega (arith, can.left, next)) (omega arith) in
    let exchanged = subst (IsExchanged table number table.current None table.current (Some tree)) (sym c.as_slice.ensures.value)
    c.in-Ok-created_pairs.ensures in
    let of = agrees_says g.C.PageCache.pages store _ (c.requires.agrees honest works) in
    let may = g.met.D.Disk.reads_may_stay c.args.disk.now (g.D.Disk.attached c.args.disk.now) honest in
    told_unmade store before _ of holds.contents _ (created id tree before) c.as_slice.result.now front
    (created_carries _ table contents c.requires.table honest before holds.contents refl id tree number now c.as_slice.result.now next
    c.now-now.ensures.current own c.requires.storable absent (sym (full_same contents before holds.contents.documents) ∙ space) exchanged)
    (c.plan_and_commit.ensures.any_moment honest works of.version of.told front (of.says.each _ may) said)
    c.plan_and_commit.new.store (creation id tree before) (creates contents before holds.contents.documents id tree space) c.args.ids.now
    c.in-Err.fault c.in-Err.ensures.kept (c.in-Err.ensures.damage honest) (c.in-Err.ensures.untouched honest) holds.recent

pub returns-clause-full : goal.returns-clause-full
returns-clause-full g c = λ before hold full.
    never_full (store_contents c.args.store.now) before (sym c.is_full.ensures ∙ c.if-is_full.false) hold.documents full

pub returns-clause-leaves : goal.returns-clause-leaves
returns-clause-leaves g c =
    let store = c.args.store.now in
    let contents = store_contents store in
    let tree = c.args.tree.now in
    let number = c.meta-number.result.next in
    let now = c.now-now.result in
    let can = can_create contents (sym c.is_full.ensures ∙ c.if-is_full.false) in
    let next = c.meta-number.ensures.next in
    let front = creating_changes number now tree in
    let said = ap changes_said c.in-Ok.ensures
    ∙ creating_said number now tree (omega (arith, can.some, next)) (omega (arith, can.left, next)) (omega arith) in
    left_behind g.C.PageCache.pages _ store c.plan_and_commit.new.store _ _ _ _ (Err c.in-Err.fault) c.in-Err.ensures.kept
    (λ honest works set index rests.
    c.plan_and_commit.ensures.readable honest works front set said (creating_readable number now tree c.requires.storable) index rests)
    c.in-Err.ensures.untouched c.in-Err.ensures.damage c.in-Err.ensures.fails c.plan_and_commit.ensures.agrees
    c.plan_and_commit.ensures.slots c.plan_and_commit.ensures.others
    c.plan_and_commit.ensures.area c.in-Err.ensures.cause c.plan_and_commit.ensures.never_falls

pub returns-then-is_full-clause-full_only : goal.returns-then-is_full-clause-full_only
returns-then-is_full-clause-full_only g c = sym c.is_full.ensures ∙ c.if-is_full.true

pub returns-in_default-clause-full_only : goal.returns-in_default-clause-full_only
returns-in_default-clause-full_only g c = sym c.is_full.ensures ∙ c.if-is_full.false

pub returns-in_default-created_pairs-clause-full_only : goal.returns-in_default-created_pairs-clause-full_only
returns-in_default-created_pairs-clause-full_only g c = sym c.is_full.ensures ∙ c.if-is_full.false

pub returns-in-Ok-plan_and_commit-clause-full_only : goal.returns-in-Ok-plan_and_commit-clause-full_only
returns-in-Ok-plan_and_commit-clause-full_only g c = sym c.is_full.ensures ∙ c.if-is_full.false

pub returns-in-Ok-plan_and_commit-clause-learns : goal.returns-in-Ok-plan_and_commit-clause-learns
returns-in-Ok-plan_and_commit-clause-learns g c =
    subst (λ (n : ℕ). Puts c.args.id.now n c.args.ids.now c.note_created.new.ids) c.meta-number.ensures.next c.note_created.ensures.ids

pub returns-clause-full_only : goal.returns-clause-full_only
returns-clause-full_only g c = sym c.is_full.ensures ∙ c.if-is_full.false
