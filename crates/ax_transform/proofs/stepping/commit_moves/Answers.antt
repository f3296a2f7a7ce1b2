-- The moves that were gathered are committed in the order of their changes, or nothing is changed.
use Rattle.std.proofs.Common.{Ok, Err, List, ℕ, refl, sym, ap, subst, arith}
use Rattle.std.specs.Prelude.{◌↔◌}
use Rattle.std.specs.List.{Contains}
use Rattle.ax_container.specs.Reindexing.{stepped}
use Rattle.ax_delta.specs.Changes.{changed_pairs}
use Rattle.ax_delta.specs.declared.change.Change.{Change}
use Rattle.ax_index.specs.DeltaSizes.{HaveShortTerms}
use Rattle.ax_pair.specs.Order.{Rise}
use Rattle.ax_store.proofs.StoreLemmas.{agrees_says}
use Rattle.ax_store.specs.Store.{store_contents}
use Rattle.ax_transform.proofs.Mids.{all_readable, moved_changes}
use Rattle.ax_transform.proofs.StepLanding.{keeps_moved, leave_found, may_found, moves_none, netted_found, no_deltas_found, parts_there, said_found}
use Rattle.ax_transform.proofs.StepLanding.{short_found, small_found, table_kept, table_moved, written_found, written_none}
use Rattle.ax_transform.proofs.Stepped.{carries_all, none_stepped, recent_stepped}
use Rattle.ax_transform.proofs.StepLanding.{same_found}
use Rattle.ax_transform.specs.Gathering.{CountAllMoved, MayAllBeMoved, start_of}
use Rattle.ax_transform.specs.Moving.{Move, numbers_of}
use Rattle.ax_transform.specs.Steps.{AreEnough}
use Rattle.ax_write.proofs.Writing.{left_behind, still, told_made, told_unmade}
use Rattle.ax_transform.proofs.stepping.commit_moves.Goals as goal

-- ---- there are none

pub returns-then-is_empty-clause-tells : goal.returns-then-is_empty-clause-tells
returns-then-is_empty-clause-tells g c = λ honest works before ids holds count gathered.
    let store = c.args.store.now in
    let contents = store_contents store in
    let table = c.args.table.now in
    let none = moves_none _ table contents c.requires.table refl c.args.moves count gathered (c.is_empty.ensures.none c.if-is_empty.true) in
    let enough = subst (λ (ms : List Move). AreEnough count contents table.current (start_of table) (numbers_of ms)) none gathered.enough in (
      before,
      ap (λ after. Ok after) (none_stepped _ honest table contents c.requires.table refl before holds.contents.documents count enough),
      holds,
      still store before _ (agrees_says g.C.PageCache.pages store _ (c.requires.agrees honest works)) holds.contents,
    )

pub returns-then-is_empty-clause-table : goal.returns-then-is_empty-clause-table
returns-then-is_empty-clause-table g c =
    let contents = store_contents c.args.store.now in
    let table = c.args.table.now in
    let of = c.requires.gathered in
    table_kept _ table contents c.requires.table refl c.args.moves of.0 of.1 c.mark_up_to-mark.result c.mark_up_to-mark.ensures.most
    c.mark_up_to-mark.ensures.none table c.raise_mark.new.table c.raise_mark.ensures.same c.raise_mark.ensures.most
    (moves_none _ table contents c.requires.table refl c.args.moves of.0 of.1 (c.is_empty.ensures.none c.if-is_empty.true)) refl

pub returns-then-is_empty-clause-small : goal.returns-then-is_empty-clause-small
returns-then-is_empty-clause-small g c = λ count gathered.
    let contents = store_contents c.args.store.now in
    let table = c.args.table.now in
    let none = moves_none _ table contents c.requires.table refl c.args.moves count gathered (c.is_empty.ensures.none c.if-is_empty.true) in
    let changes = c.args.moves.changes.items in
    small_found _ table contents c.requires.table refl c.args.moves count gathered c.raise_mark.new.table contents changes
    (λ zero. omega (arith, c.mark_up_to-mark.ensures.all zero, c.raise_mark.ensures.marked)) (λ change. ((λ is. is), (λ is. is)))
    (written_none _ table contents c.requires.table refl c.args.moves count gathered changes none)

-- ---- what the commit asks for

pub plan_and_commit-requires-clause-rise : goal.plan_and_commit-requires-clause-rise
plan_and_commit-requires-clause-rise g c =
    let of = c.requires.gathered in
    subst (λ (changes : List Change). Rise (changed_pairs changes)) (sym c.as_slice.ensures.value)
    (c.put_in_order.ensures.rise
    (netted_found _ c.args.table.now (store_contents c.args.store.now) c.requires.table refl c.args.moves of.0 of.1))

pub plan_and_commit-requires-clause-short : goal.plan_and_commit-requires-clause-short
plan_and_commit-requires-clause-short g c =
    let of = c.requires.gathered in
    subst HaveShortTerms (sym c.as_slice.ensures.value)
    (short_found _ c.args.table.now (store_contents c.args.store.now) c.requires.table refl c.args.moves of.0 of.1 _ c.put_in_order.ensures.same)

pub plan_and_commit-requires-clause-some : goal.plan_and_commit-requires-clause-some
plan_and_commit-requires-clause-some g c =
    let of = c.requires.gathered in
    parts_there _ c.args.table.now (store_contents c.args.store.now) c.requires.table refl c.args.moves of.0 of.1
    (c.is_empty.ensures.some c.if-is_empty.false)

pub plan_and_commit-requires-clause-none : goal.plan_and_commit-requires-clause-none
plan_and_commit-requires-clause-none g c =
    let of = c.requires.gathered in
    no_deltas_found _ c.args.table.now (store_contents c.args.store.now) c.requires.table refl c.args.moves of.0 of.1

pub plan_and_commit-requires-clause-beside : goal.plan_and_commit-requires-clause-beside
plan_and_commit-requires-clause-beside g c =
    let of = c.requires.gathered in
    leave_found _ c.args.table.now (store_contents c.args.store.now) c.requires.table refl c.args.moves of.0 of.1

pub count_moved-requires : goal.count_moved-requires
count_moved-requires g c =
    let of = c.requires.gathered in
    subst (λ (policies : List ℕ). MayAllBeMoved policies c.args.table.now) (sym c.as_slice-in-Ok.ensures.value)
    (may_found _ c.args.table.now (store_contents c.args.store.now) c.requires.table refl c.args.moves of.0 of.1)

-- ---- they were committed

pub returns-in-Ok-clause-tells : goal.returns-in-Ok-clause-tells
returns-in-Ok-clause-tells g c = λ honest works before ids holds count gathered.
    let store = c.args.store.now in
    let contents = store_contents store in
    let table = c.args.table.now in
    let moves = gathered.moves in
    let front = moved_changes table.current moves in
    let sorted = c.as_slice.result.now in
    let said = said_found _ table contents c.requires.table refl c.args.moves count gathered in
    let rise = subst (λ (changes : List Change). Rise (changed_pairs changes)) (sym c.as_slice.ensures.value)
    (c.put_in_order.ensures.rise (netted_found _ table contents c.requires.table refl c.args.moves count gathered)) in
    let same = same_found _ table contents c.requires.table refl c.args.moves count gathered sorted
    (subst (λ (changes : List Change). (change : Change) → Contains changes change ↔ Contains c.args.moves.changes.items change)
    (sym c.as_slice.ensures.value) c.put_in_order.ensures.same) in
    let of = agrees_says g.C.PageCache.pages store _ (c.requires.agrees honest works) in
    let may = g.met.D.Disk.reads_may_stay c.args.disk.now (g.D.Disk.attached c.args.disk.now) honest in
    told_made store before _ of holds.contents _ (stepped count before) sorted front
    (carries_all _ honest table contents c.requires.table refl before holds.contents.documents holds.contents count moves
    gathered.gathers.next gathered.gathers.are gathered.enough sorted rise same)
    (c.plan_and_commit.ensures.any_moment honest works of.version of.told front (of.says.each _ may) said)
    c.plan_and_commit.new.store (Ok (stepped count before)) refl ids
    _ honest (c.in-Ok.ensures.made front said) (recent_stepped ids count before holds.recent)

pub returns-in-Ok-clause-table : goal.returns-in-Ok-clause-table
returns-in-Ok-clause-table g c =
    let contents = store_contents c.args.store.now in
    let table = c.args.table.now in
    let of = c.requires.gathered in
    let front = moved_changes table.current of.1.moves in
    table_moved _ table contents c.requires.table refl c.args.moves of.0 of.1 c.mark_up_to-mark.result c.mark_up_to-mark.ensures.most
    c.mark_up_to-mark.ensures.none c.count_moved.new.table c.raise_mark-in-Ok.new.table c.raise_mark-in-Ok.ensures.same
    c.raise_mark-in-Ok.ensures.most
    (subst (λ (policies : List ℕ). CountAllMoved policies table c.count_moved.new.table) c.as_slice-in-Ok.ensures.value c.count_moved.ensures)
    c.as_slice.result.now (store_contents c.plan_and_commit.new.store)
    (c.in-Ok.ensures.made front (said_found _ table contents c.requires.table refl c.args.moves of.0 of.1))

pub returns-in-Ok-clause-policies : goal.returns-in-Ok-clause-policies
returns-in-Ok-clause-policies g c =
    keeps_moved c.as_slice-in-Ok.result.now c.args.table.now c.count_moved.new.table c.raise_mark-in-Ok.new.table c.count_moved.ensures
    c.raise_mark-in-Ok.ensures.same c.raise_mark-in-Ok.ensures.rises

pub returns-in-Ok-clause-small : goal.returns-in-Ok-clause-small
returns-in-Ok-clause-small g c = λ count gathered.
    let contents = store_contents c.args.store.now in
    let table = c.args.table.now in
    let sorted = c.as_slice.result.now in
    let after = store_contents c.plan_and_commit.new.store in
    small_found _ table contents c.requires.table refl c.args.moves count gathered c.raise_mark-in-Ok.new.table after sorted
    (λ zero. omega (arith, c.mark_up_to-mark.ensures.all zero, c.raise_mark-in-Ok.ensures.marked))
    (subst (λ (changes : List Change). (change : Change) → Contains changes change ↔ Contains c.args.moves.changes.items change)
    (sym c.as_slice.ensures.value) c.put_in_order.ensures.same)
    (written_found _ table contents c.requires.table refl c.args.moves count gathered sorted after
    (c.is_empty.ensures.some c.if-is_empty.false) c.in-Ok.ensures.planned)

pub returns-in-Ok-clause-leaves : goal.returns-in-Ok-clause-leaves
returns-in-Ok-clause-leaves g c =
    let store = c.args.store.now in
    let contents = store_contents store in
    let table = c.args.table.now in
    let of = c.requires.gathered in
    let moves = of.1.moves in
    let front = moved_changes table.current moves in
    let said = said_found _ table contents c.requires.table refl c.args.moves of.0 of.1 in
    left_behind g.C.PageCache.pages _ store c.plan_and_commit.new.store _ _ _ _ (Ok tt) tt
    (λ honest works set index rests.
    c.plan_and_commit.ensures.readable honest works front set said (all_readable _ table contents moves of.1.gathers.are) index rests)
    (λ honest. tt) (λ honest. tt) c.in-Ok.ensures.fails c.plan_and_commit.ensures.agrees c.plan_and_commit.ensures.slots
    c.plan_and_commit.ensures.others c.plan_and_commit.ensures.area c.in-Ok.ensures.cause c.plan_and_commit.ensures.never_falls

-- ---- they were not

pub returns-clause-tells : goal.returns-clause-tells
returns-clause-tells g c = λ honest works before ids holds count gathered.
    let store = c.args.store.now in
    let contents = store_contents store in
    let table = c.args.table.now in
    let moves = gathered.moves in
    let front = moved_changes table.current moves in
    let sorted = c.as_slice.result.now in
    let said = said_found _ table contents c.requires.table refl c.args.moves count gathered in
    let rise = subst (λ (changes : List Change). Rise (changed_pairs changes)) (sym c.as_slice.ensures.value)
    (c.put_in_order.ensures.rise (netted_found _ table contents c.requires.table refl c.args.moves count gathered)) in
    let same = same_found _ table contents c.requires.table refl c.args.moves count gathered sorted
    (subst (λ (changes : List Change). (change : Change) → Contains changes change ↔ Contains c.args.moves.changes.items change)
    (sym c.as_slice.ensures.value) c.put_in_order.ensures.same) in
    let of = agrees_says g.C.PageCache.pages store _ (c.requires.agrees honest works) in
    let may = g.met.D.Disk.reads_may_stay c.args.disk.now (g.D.Disk.attached c.args.disk.now) honest in
    told_unmade store before _ of holds.contents _ (stepped count before) sorted front
    (carries_all _ honest table contents c.requires.table refl before holds.contents.documents holds.contents count moves
    gathered.gathers.next gathered.gathers.are gathered.enough sorted rise same)
    (c.plan_and_commit.ensures.any_moment honest works of.version of.told front (of.says.each _ may) said)
    c.plan_and_commit.new.store (Ok (stepped count before)) refl ids
    c.in-Err.fault c.in-Err.ensures.kept (c.in-Err.ensures.damage honest) (c.in-Err.ensures.untouched honest) holds.recent

pub returns-clause-leaves : goal.returns-clause-leaves
returns-clause-leaves g c =
    let store = c.args.store.now in
    let contents = store_contents store in
    let table = c.args.table.now in
    let of = c.requires.gathered in
    let moves = of.1.moves in
    let front = moved_changes table.current moves in
    let said = said_found _ table contents c.requires.table refl c.args.moves of.0 of.1 in
    left_behind g.C.PageCache.pages _ store c.plan_and_commit.new.store _ _ _ _ (Err c.in-Err.fault) c.in-Err.ensures.kept
    (λ honest works set index rests.
    c.plan_and_commit.ensures.readable honest works front set said (all_readable _ table contents moves of.1.gathers.are) index rests)
    c.in-Err.ensures.untouched c.in-Err.ensures.damage c.in-Err.ensures.fails c.plan_and_commit.ensures.agrees c.plan_and_commit.ensures.slots
    c.plan_and_commit.ensures.others c.plan_and_commit.ensures.area c.in-Err.ensures.cause c.plan_and_commit.ensures.never_falls
