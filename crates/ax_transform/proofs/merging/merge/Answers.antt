-- The plan changed no list; then its batch was committed, or nothing was.
use Rattle.std.proofs.Common.{List, Ok, Err, sym, ap, subst, ◌∙◌, arith}
use Rattle.std.specs.Prelude.{IsTrue}
use Rattle.ax_area.specs.Parts.{after_parts}
use Rattle.ax_frame.specs.Part.{PartValue}
use Rattle.ax_index.specs.Merging.{IsMergePlan}
use Rattle.ax_log.specs.Log.{log_area}
use Rattle.ax_pool.specs.Frames.{Frames}
use Rattle.ax_store.specs.Batch.{batch_parts}
use Rattle.ax_store.specs.Store.{store_contents}
use Rattle.ax_transform.proofs.Merged.{merged_within, planned_left, readable_made, table_made, tells_made, tells_none, tells_unmade, tells_unplanned}
use Rattle.ax_write.proofs.Calls.{cause_then, fails_then, keeps_still, told_briefly}
use Rattle.ax_write.proofs.Idling.{idles_committed}
use Rattle.ax_write.proofs.Writing.{left_behind}
use Rattle.ax_transform.proofs.merging.merge.Goals as goal

-- ---- there is nothing to merge

pub returns-then-parts-eq0-clause-tells : goal.returns-then-parts-eq0-clause-tells
returns-then-parts-eq0-clause-tells g c = λ honest works before ids holds.
    tells_none g.C.PageCache.pages c.args.store.now c.merge_some.new.store _ _ before (c.requires.agrees honest works) ids holds
    (c.merge_some.ensures.reserves.lists honest) c.merge_some.ensures.reserves.same.contents

pub returns-then-parts-eq0-clause-leaves : goal.returns-then-parts-eq0-clause-leaves
returns-then-parts-eq0-clause-leaves g c =
    planned_left g.C.PageCache.pages _ c.args.store.now c.merge_some.new.store _ _ _ _ c.merge_some.ensures.reserves c.merge_some.ensures.others
    (Ok c.in-Ok.merged) c.in-Ok.ensures.fails c.in-Ok.ensures.cause c.in-Ok.ensures.told

-- ---- it was committed

pub seal_and_commit-requires-clause-within : goal.seal_and_commit-requires-clause-within
seal_and_commit-requires-clause-within g c =
    merged_within c.args.count c.in-Ok.merged _ _ (store_contents c.args.store.now) _ c.in-Ok.ensures.merged c.begin-batch.ensures.parts
    c.merge_some.ensures.reserves.same.contents

pub returns-in-Ok-seal_and_commit-clause-tells : goal.returns-in-Ok-seal_and_commit-clause-tells
returns-in-Ok-seal_and_commit-clause-tells g c = λ honest works before ids holds.
    let store = c.args.store.now in
    let plan = subst (λ (old : List PartValue). IsMergePlan (g.D.Disk.is_honest c.args.disk.now) c.args.count c.in-Ok.merged old
    (batch_parts c.merge_some.new.batch) (store_contents store).terms) c.begin-batch.ensures.parts c.in-Ok.ensures.merged in
    tells_made g.C.PageCache.pages _ honest c.args.count c.in-Ok.merged (batch_parts c.merge_some.new.batch) store c.merge_some.new.store plan
    c.merge_some.ensures.reserves.same.contents _ _ _ (c.merge_some.ensures.reserves.lists honest)
    (g.met.D.Disk.reads_may_stay c.args.disk.now (g.D.Disk.attached c.args.disk.now) honest) (c.requires.agrees honest works)
    (c.seal_and_commit.ensures.any_moment (subst IsTrue (sym c.merge_some.ensures.honest) honest) (c.in-Ok.ensures.fails ∙ works))
    before ids holds c.seal_and_commit.new.store c.in-Ok-seal_and_commit.ensures.ok

pub returns-in-Ok-seal_and_commit-clause-table : goal.returns-in-Ok-seal_and_commit-clause-table
returns-in-Ok-seal_and_commit-clause-table g c =
    let store = c.args.store.now in
    let plan = subst (λ (old : List PartValue). IsMergePlan (g.D.Disk.is_honest c.args.disk.now) c.args.count c.in-Ok.merged old
    (batch_parts c.merge_some.new.batch) (store_contents store).terms) c.begin-batch.ensures.parts c.in-Ok.ensures.merged in
    table_made _ c.args.count c.in-Ok.merged (batch_parts c.merge_some.new.batch) (store_contents store) plan
    (store_contents c.seal_and_commit.new.store)
    (ap (after_parts (batch_parts c.merge_some.new.batch)) (sym c.merge_some.ensures.reserves.same.contents)
    ∙ c.in-Ok-seal_and_commit.ensures.ok)

pub returns-in-Ok-seal_and_commit-clause-leaves : goal.returns-in-Ok-seal_and_commit-clause-leaves
returns-in-Ok-seal_and_commit-clause-leaves g c =
    let store = c.args.store.now in
    let plan = subst (λ (old : List PartValue). IsMergePlan (g.D.Disk.is_honest c.args.disk.now) c.args.count c.in-Ok.merged old
    (batch_parts c.merge_some.new.batch) (store_contents store).terms) c.begin-batch.ensures.parts c.in-Ok.ensures.merged in
    left_behind g.C.PageCache.pages _ store c.seal_and_commit.new.store _ _ _ _ (Ok tt) (tt {0})
    (λ honest works.
    readable_made g.C.PageCache.pages _ honest c.args.count c.in-Ok.merged (batch_parts c.merge_some.new.batch) store c.merge_some.new.store plan
    c.merge_some.ensures.reserves.same.contents _ _ _ (c.merge_some.ensures.reserves.lists honest)
    (g.met.D.Disk.reads_may_stay c.args.disk.now (g.D.Disk.attached c.args.disk.now) honest) (c.requires.agrees honest works)
    (c.seal_and_commit.ensures.any_moment (subst IsTrue (sym c.merge_some.ensures.honest) honest) (c.in-Ok.ensures.fails ∙ works)))
    (λ honest. tt) (λ honest. tt) (fails_then (Ok (tt {0})) _ _ _ c.in-Ok.ensures.fails c.in-Ok-seal_and_commit.ensures.fails)
    (λ honest. c.seal_and_commit.ensures.agrees (subst IsTrue (sym c.merge_some.ensures.honest) honest))
    (ap (λ (frames : Frames). frames.taken) c.seal_and_commit.ensures.slots ∙ c.merge_some.ensures.reserves.same.taken)
    (keeps_still _ _ _ c.seal_and_commit.ensures.slots c.merge_some.ensures.others)
    (c.seal_and_commit.ensures.area ∙ ap log_area c.merge_some.ensures.reserves.same.logged)
    (λ works. cause_then (Ok (tt {0})) _ _ _ (c.in-Ok.ensures.cause works).uncounted
    (c.in-Ok-seal_and_commit.ensures.cause (c.in-Ok.ensures.fails ∙ works)))
    (omega (arith, c.merge_some.ensures.reserves.never_falls, c.seal_and_commit.ensures.never_falls))

-- ---- the commit failed

pub returns-in-Err-seal_and_commit-clause-tells : goal.returns-in-Err-seal_and_commit-clause-tells
returns-in-Err-seal_and_commit-clause-tells g c = λ honest works before ids holds.
    let store = c.args.store.now in
    let plan = subst (λ (old : List PartValue). IsMergePlan (g.D.Disk.is_honest c.args.disk.now) c.args.count c.in-Ok.merged old
    (batch_parts c.merge_some.new.batch) (store_contents store).terms) c.begin-batch.ensures.parts c.in-Ok.ensures.merged in
    tells_unmade g.C.PageCache.pages _ honest c.args.count c.in-Ok.merged (batch_parts c.merge_some.new.batch) store c.merge_some.new.store plan
    c.merge_some.ensures.reserves.same.contents _ _ _ (c.merge_some.ensures.reserves.lists honest)
    (g.met.D.Disk.reads_may_stay c.args.disk.now (g.D.Disk.attached c.args.disk.now) honest) (c.requires.agrees honest works)
    (c.seal_and_commit.ensures.any_moment (subst IsTrue (sym c.merge_some.ensures.honest) honest) (c.in-Ok.ensures.fails ∙ works))
    before ids holds c.seal_and_commit.new.store c.in-Err-seal_and_commit.fault c.in-Err-seal_and_commit.ensures.kept
    c.in-Err-seal_and_commit.ensures.only

pub returns-in-Err-seal_and_commit-clause-leaves : goal.returns-in-Err-seal_and_commit-clause-leaves
returns-in-Err-seal_and_commit-clause-leaves g c =
    let store = c.args.store.now in
    let why = c.in-Err-seal_and_commit.fault in
    let plan = subst (λ (old : List PartValue). IsMergePlan (g.D.Disk.is_honest c.args.disk.now) c.args.count c.in-Ok.merged old
    (batch_parts c.merge_some.new.batch) (store_contents store).terms) c.begin-batch.ensures.parts c.in-Ok.ensures.merged in
    left_behind g.C.PageCache.pages _ store c.seal_and_commit.new.store _ _ _ _ (Err why)
    (c.in-Err-seal_and_commit.ensures.kept ∙ c.merge_some.ensures.reserves.same.contents)
    (λ honest works.
    readable_made g.C.PageCache.pages _ honest c.args.count c.in-Ok.merged (batch_parts c.merge_some.new.batch) store c.merge_some.new.store plan
    c.merge_some.ensures.reserves.same.contents _ _ _ (c.merge_some.ensures.reserves.lists honest)
    (g.met.D.Disk.reads_may_stay c.args.disk.now (g.D.Disk.attached c.args.disk.now) honest) (c.requires.agrees honest works)
    (c.seal_and_commit.ensures.any_moment (subst IsTrue (sym c.merge_some.ensures.honest) honest) (c.in-Ok.ensures.fails ∙ works)))
    (λ honest. idles_committed _ _ _ (c.merge_some.ensures.reserves.lists honest) {T = Unit {0}} (Err why) c.in-Err-seal_and_commit.ensures.only
    (c.in-Err-seal_and_commit.ensures.untouched (subst IsTrue (sym c.merge_some.ensures.honest) honest)))
    (λ honest. told_briefly {T = Unit {0}} store (Err why) c.in-Err-seal_and_commit.ensures.only)
    (fails_then {T = Unit {0}} (Err why) _ _ _ c.in-Ok.ensures.fails c.in-Err-seal_and_commit.ensures.fails)
    (λ honest. c.seal_and_commit.ensures.agrees (subst IsTrue (sym c.merge_some.ensures.honest) honest))
    (ap (λ (frames : Frames). frames.taken) c.seal_and_commit.ensures.slots ∙ c.merge_some.ensures.reserves.same.taken)
    (keeps_still _ _ _ c.seal_and_commit.ensures.slots c.merge_some.ensures.others)
    (c.seal_and_commit.ensures.area ∙ ap log_area c.merge_some.ensures.reserves.same.logged)
    (λ works. cause_then {T = Unit {0}} (Err why) _ _ _ (c.in-Ok.ensures.cause works).uncounted
    (c.in-Err-seal_and_commit.ensures.cause (c.in-Ok.ensures.fails ∙ works)))
    (omega (arith, c.merge_some.ensures.reserves.never_falls, c.seal_and_commit.ensures.never_falls))

-- ---- the plan failed

pub returns-in-Err-clause-tells : goal.returns-in-Err-clause-tells
returns-in-Err-clause-tells g c = λ honest works before ids holds.
    tells_unplanned g.C.PageCache.pages c.args.store.now c.merge_some.new.store _ _ before (c.requires.agrees honest works) ids holds
    (c.merge_some.ensures.reserves.lists honest) c.merge_some.ensures.reserves.same.contents c.in-Err.fault (c.in-Err.ensures.told honest)

pub returns-in-Err-clause-leaves : goal.returns-in-Err-clause-leaves
returns-in-Err-clause-leaves g c =
    planned_left g.C.PageCache.pages _ c.args.store.now c.merge_some.new.store _ _ _ _ c.merge_some.ensures.reserves c.merge_some.ensures.others
    (Err c.in-Err.fault) c.in-Err.ensures.fails c.in-Err.ensures.cause c.in-Err.ensures.told
