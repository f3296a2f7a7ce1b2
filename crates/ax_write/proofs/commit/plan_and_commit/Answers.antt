-- The plan changed no list; then the batch with its parts was committed, or nothing was.
use Rattle.std.proofs.Common.{sym, subst, ◌∙◌, ap}
use Rattle.std.specs.Prelude.{IsTrue}
use Rattle.ax_disk.specs.laws.StaysLaws.{idles_stay}
use Rattle.ax_image.specs.Readable.{SaysReadable}
use Rattle.ax_index.proofs.ReadsLaws.{agrees_told}
use Rattle.ax_log.specs.Log.{log_area}
use Rattle.ax_store.proofs.StoreLemmas.{agrees_says}
use Rattle.ax_store.specs.Store.{store_contents}
use Rattle.ax_write.proofs.Calls.{cause_then, fails_then, keeps_still, on_err, on_ok, some_more, told_briefly}
use Rattle.ax_write.proofs.Committing.{made_by, readable_with, says_all, told_with, trusted_plan, turns_with, unplanned}
use Rattle.ax_write.proofs.Idling.{idles_committed, idles_of}
use Rattle.ax_write.proofs.Planned.{front_said, planned, planned_allowed}
use Rattle.ax_write.proofs.commit.plan_and_commit.Goals as goal

pub seal_and_commit-requires-clause-agrees : goal.seal_and_commit-requires-clause-agrees
seal_and_commit-requires-clause-agrees g c =
    agrees_told g.C.PageCache.pages _ _ c.plan_changes.ensures.honest _ _ c.plan_changes.ensures.reserves.agrees

pub seal_and_commit-requires-clause-some : goal.seal_and_commit-requires-clause-some
seal_and_commit-requires-clause-some g c = some_more _ _ _ c.in-Ok.ensures.planned.added c.requires.some

pub seal_and_commit-requires-clause-within : goal.seal_and_commit-requires-clause-within
seal_and_commit-requires-clause-within g c =
    let before = store_contents c.args.store.now in
    let front = front_said _ c.args.changes.now _ _ _ before c.in-Ok.ensures.planned c.requires.beside in
    planned_allowed _ c.args.changes.now front.changes _ before _
    (planned _ c.args.changes.now _ _ _ before c.in-Ok.ensures.planned c.requires.beside front.changes front.said)
    c.plan_changes.ensures.reserves.same.contents

pub returns-in-Ok-clause-made : goal.returns-in-Ok-clause-made
returns-in-Ok-clause-made g c = λ front said.
    let before = store_contents c.args.store.now in
    on_ok c.seal_and_commit.result
    (made_by _ c.args.changes.now front _ before _ _
    (planned _ c.args.changes.now _ _ _ before c.in-Ok.ensures.planned c.requires.beside front said)
    c.plan_changes.ensures.reserves.same.contents)
    c.seal_and_commit.ensures.ok

pub returns-in-Ok-clause-kept : goal.returns-in-Ok-clause-kept
returns-in-Ok-clause-kept g c =
    on_err c.seal_and_commit.result (λ kept. kept ∙ c.plan_changes.ensures.reserves.same.contents) c.seal_and_commit.ensures.kept

pub returns-in-Ok-clause-any_moment : goal.returns-in-Ok-clause-any_moment
returns-in-Ok-clause-any_moment g c = λ honest works version told front says said.
    let before = store_contents c.args.store.now in
    let may = g.met.D.Disk.reads_may_stay c.args.disk.now (g.D.Disk.attached c.args.disk.now) honest in
    let of = agrees_says g.C.PageCache.pages c.args.store.now _ (c.requires.agrees honest works) in
    let is = planned _ c.args.changes.now _ _ _ before c.in-Ok.ensures.planned c.requires.beside front said in
    turns_with c.args.changes.now front _ before _ c.plan_changes.ensures.reserves.same.contents
    (trusted_plan _ c.args.changes.now front _ before honest is) version told _ _ _
    (c.plan_changes.ensures.reserves.lists honest) says
    (says_all _ version of.version told of.told before may of.says says)
    (c.seal_and_commit.ensures.any_moment (subst IsTrue (sym c.plan_changes.ensures.honest) honest)
    (c.in-Ok.ensures.fails ∙ works) version told)

pub returns-in-Ok-clause-told : goal.returns-in-Ok-clause-told
returns-in-Ok-clause-told g c = λ honest works version told front says said.
    let before = store_contents c.args.store.now in
    let is = planned _ c.args.changes.now _ _ _ before c.in-Ok.ensures.planned c.requires.beside front said in
    told_with c.args.changes.now front _ before _ c.plan_changes.ensures.reserves.same.contents
    (trusted_plan _ c.args.changes.now front _ before honest is) version told _ _ _
    (c.plan_changes.ensures.reserves.lists honest) says c.seal_and_commit.result
    (c.seal_and_commit.ensures.told (subst IsTrue (sym c.plan_changes.ensures.honest) honest)
    (c.in-Ok.ensures.fails ∙ works) version told)

pub returns-in-Ok-clause-untouched : goal.returns-in-Ok-clause-untouched
returns-in-Ok-clause-untouched g c = λ honest.
    idles_committed _ _ _ (c.plan_changes.ensures.reserves.lists honest) c.seal_and_commit.result c.seal_and_commit.ensures.only
    (c.seal_and_commit.ensures.untouched (subst IsTrue (sym c.plan_changes.ensures.honest) honest))

pub returns-in-Ok-clause-readable : goal.returns-in-Ok-clause-readable
returns-in-Ok-clause-readable g c = λ honest works front set said readable index rests.
    let before = store_contents c.args.store.now in
    let may = g.met.D.Disk.reads_may_stay c.args.disk.now (g.D.Disk.attached c.args.disk.now) honest in
    let of = agrees_says g.C.PageCache.pages c.args.store.now _ (c.requires.agrees honest works) in
    let is = planned _ c.args.changes.now _ _ _ before c.in-Ok.ensures.planned c.requires.beside front said in
    readable_with c.args.changes.now front _ before _ c.plan_changes.ensures.reserves.same.contents
    (trusted_plan _ c.args.changes.now front _ before honest is) of.version of.told _ _ _
    (c.plan_changes.ensures.reserves.lists honest) (of.says.each _ may) of.says
    (c.seal_and_commit.ensures.any_moment (subst IsTrue (sym c.plan_changes.ensures.honest) honest)
    (c.in-Ok.ensures.fails ∙ works) of.version of.told)
    set index readable may rests

pub returns-in-Ok-clause-damage : goal.returns-in-Ok-clause-damage
returns-in-Ok-clause-damage g c = λ honest. told_briefly c.args.store.now c.seal_and_commit.result c.seal_and_commit.ensures.only

pub returns-in-Ok-clause-fails : goal.returns-in-Ok-clause-fails
returns-in-Ok-clause-fails g c = fails_then c.seal_and_commit.result _ _ _ c.in-Ok.ensures.fails c.seal_and_commit.ensures.fails

pub returns-in-Ok-clause-agrees : goal.returns-in-Ok-clause-agrees
returns-in-Ok-clause-agrees g c = λ honest.
    c.seal_and_commit.ensures.agrees (subst IsTrue (sym c.plan_changes.ensures.honest) honest)

pub returns-in-Ok-clause-others : goal.returns-in-Ok-clause-others
returns-in-Ok-clause-others g c = keeps_still _ _ _ c.seal_and_commit.ensures.slots c.plan_changes.ensures.others

pub returns-in-Ok-clause-area : goal.returns-in-Ok-clause-area
returns-in-Ok-clause-area g c = c.seal_and_commit.ensures.area ∙ ap log_area c.plan_changes.ensures.reserves.same.logged

pub returns-in-Ok-clause-cause : goal.returns-in-Ok-clause-cause
returns-in-Ok-clause-cause g c = λ works.
    cause_then c.seal_and_commit.result _ _ _ (c.in-Ok.ensures.cause works).uncounted
    (c.seal_and_commit.ensures.cause (c.in-Ok.ensures.fails ∙ works))

pub returns-in-Err-clause-any_moment : goal.returns-in-Err-clause-any_moment
returns-in-Err-clause-any_moment g c = λ honest works version told front says said.
    let before = store_contents c.args.store.now in
    let may = g.met.D.Disk.reads_may_stay c.args.disk.now (g.D.Disk.attached c.args.disk.now) honest in
    let of = agrees_says g.C.PageCache.pages c.args.store.now _ (c.requires.agrees honest works) in
    unplanned _ _ version told before _ (says_all _ version of.version told of.told before may of.says says)
    (c.plan_changes.ensures.reserves.lists honest)

pub returns-in-Err-clause-untouched : goal.returns-in-Err-clause-untouched
returns-in-Err-clause-untouched g c = λ honest. idles_of _ _ (c.plan_changes.ensures.reserves.lists honest) c.in-Err.fault

pub returns-in-Err-clause-readable : goal.returns-in-Err-clause-readable
returns-in-Err-clause-readable g c = λ honest works front set said readable index rests.
    idles_stay _ _ SaysReadable rests (c.plan_changes.ensures.reserves.lists honest)
