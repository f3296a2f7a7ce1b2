use Rattle.std.proofs.Common.{◌∙◌, refl}
use Rattle.ax_index.proofs.CallLemmas.{deltas_planned, no_disk_fault, no_failure, with_room}
use Rattle.ax_index.proofs.ReadsLaws.{others_itself, others_still, reads_only, room_alone, room_behind}
use Rattle.ax_index.proofs.GrammarLemmas.{none_met}
use Rattle.ax_index.proofs.plan.plan_page.Goals as goal

pub returns-then-not-merge-clause-planned : goal.returns-then-not-merge-clause-planned
returns-then-not-merge-clause-planned g c = λ now earlier up next belong.
    deltas_planned _ c.plan_deltas.result c.args.page c.args.changes.now _ now earlier _ _ _ c.args.next.now _ _ _ c.requires.page up next belong refl refl refl
    (c.plan_deltas.ensures.planned now) c.plan_deltas.ensures.deltas

pub returns-in-Ok-true-clause-planned : goal.returns-in-Ok-true-clause-planned
returns-in-Ok-true-clause-planned g c = λ now earlier up next belong.
    with_room c.args.page c.args.changes.now _ now _ _ _ _ _ (c.in-Ok-true.ensures.merged now earlier up next belong c.in-Ok-true.field-0-test)

pub returns-in-Ok-false-clause-planned : goal.returns-in-Ok-false-clause-planned
returns-in-Ok-false-clause-planned g c = λ now earlier up next belong.
    let left = c.in-Ok-false.ensures.left c.in-Ok-false.field-0-test in
    deltas_planned _ c.plan_deltas-in-Ok-false.result c.args.page c.args.changes.now _ now earlier _ _ _ c.args.next.now _ _ _
    c.requires.page up next belong left.0 left.1 refl
    (c.plan_deltas-in-Ok-false.ensures.planned now) c.plan_deltas-in-Ok-false.ensures.deltas

pub returns-in-Ok-false-clause-cause : goal.returns-in-Ok-false-clause-cause
returns-in-Ok-false-clause-cause g c = λ works.
    no_disk_fault c.plan_deltas-in-Ok-false.result _ _ _ c.plan_deltas-in-Ok-false.ensures.memory (c.in-Ok-false.ensures.cause works)

pub returns-then-not-merge-clause-reserves : goal.returns-then-not-merge-clause-reserves
returns-then-not-merge-clause-reserves g c =
    room_alone g.C.PageCache.pages _ _ _ _ _ c.requires.agrees c.plan_deltas.ensures.same

pub returns-then-not-merge-clause-fails : goal.returns-then-not-merge-clause-fails
returns-then-not-merge-clause-fails g c = no_failure c.plan_deltas.result _ _ c.plan_deltas.ensures.memory c.plan_deltas.ensures.same.failed

pub returns-in-Ok-true-clause-reserves : goal.returns-in-Ok-true-clause-reserves
returns-in-Ok-true-clause-reserves g c = reads_only g.C.PageCache.pages _ _ _ _ _ _ _ c.in-Ok-true.ensures.reads

pub returns-in-Ok-false-clause-reserves : goal.returns-in-Ok-false-clause-reserves
returns-in-Ok-false-clause-reserves g c =
    room_behind g.C.PageCache.pages _ _ _ _ _ _ _ _ (reads_only g.C.PageCache.pages _ _ _ _ _ _ _ c.in-Ok-false.ensures.reads)
    c.plan_deltas-in-Ok-false.ensures.same

pub returns-in-Ok-false-clause-fails : goal.returns-in-Ok-false-clause-fails
returns-in-Ok-false-clause-fails g c =
    no_failure c.plan_deltas-in-Ok-false.result _ _ c.plan_deltas-in-Ok-false.ensures.memory
    (c.plan_deltas-in-Ok-false.ensures.same.failed ∙ c.in-Ok-false.ensures.fails)

pub returns-in-Err-clause-reserves : goal.returns-in-Err-clause-reserves
returns-in-Err-clause-reserves g c = reads_only g.C.PageCache.pages _ _ _ _ _ _ _ c.in-Err.ensures.reads

pub returns-then-not-merge-clause-others : goal.returns-then-not-merge-clause-others
returns-then-not-merge-clause-others g c = others_still _ _ _ _ c.plan_deltas.ensures.same.slots (others_itself _ _)

pub returns-in-Ok-false-clause-others : goal.returns-in-Ok-false-clause-others
returns-in-Ok-false-clause-others g c = others_still _ _ _ _ c.plan_deltas-in-Ok-false.ensures.same.slots c.in-Ok-false.ensures.others

pub returns-then-not-merge-clause-met : goal.returns-then-not-merge-clause-met
returns-then-not-merge-clause-met g c = λ told. none_met _ c.plan_deltas.result c.plan_deltas.ensures.deltas

pub returns-in-Ok-false-clause-met : goal.returns-in-Ok-false-clause-met
returns-in-Ok-false-clause-met g c = λ told. none_met _ c.plan_deltas-in-Ok-false.result c.plan_deltas-in-Ok-false.ensures.deltas
