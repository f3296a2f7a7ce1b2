use Rattle.std.proofs.Common.{◌∙◌, ap, arith, refl, subst, sym}
use Rattle.std.specs.Prelude.{IsTrue}
use Rattle.ax_store.specs.Store.{store_contents}
use Rattle.ax_index.proofs.CallLemmas.{fails_as, planned_begin, planned_end, planned_on, room_for_all, cause_later, told_planned}
use Rattle.ax_index.proofs.PlanningLemmas.{planned_all}
use Rattle.ax_index.proofs.ReadsLaws.{agrees_told, nothing_reserved, of_honest_too, others_itself, others_still, others_then, reserve_then, room_behind}
use Rattle.ax_pool.specs.declared.slot.Slot.{Slot}
use Rattle.ax_store.specs.declared.store.StoreFrames.{StoreFrames}
use Rattle.ax_index.proofs.plan.plan_by.Goals as goal

pub loop-rest-init : goal.loop-rest-init
loop-rest-init g c = record {
  rise = c.requires.rise;
  short = c.requires.short;
  planned = planned_begin c.args.changes.now (store_contents c.args.store.now).terms c.pages.result _ _ c.pages.ensures;
  few = omega arith;
  reserves = nothing_reserved g.C.PageCache.pages _ c.args.store.now _ _ c.requires.agrees;
  failed = refl;
  count = λ works. refl;
  slot = refl;
  others = others_itself _ _;
  attached = refl;
  honest = refl;
}

pub loop-rest-preserved : goal.loop-rest-preserved
loop-rest-preserved g c =
    let inv = c.loop-rest.invariant in
    let more = c.in-Ok-plan_first.ensures in
    record {
      rise = more.rise;
      short = more.short;
      planned = planned_on _ _ c.args.changes.now c.loop-rest.rest.now c.in-Ok-plan_first.behind.now _ (store_contents c.args.store.now).terms _ _ _ _ _ _ _ _ _
          inv.honest (ap (λ contents. contents.terms) inv.reserves.same.contents) (more.planned c.args.changes.now _) inv.planned;
      few = more.few;
      reserves = reserve_then g.C.PageCache.pages _ _ _ _ _ _ _ _ _ _ inv.reserves
          (of_honest_too g.C.PageCache.pages _ _ inv.honest _ _ _ _ _ _ more.reserves);
      failed = more.fails ∙ inv.failed;
      count = λ works. (more.cause (inv.failed ∙ works)).uncounted ∙ inv.count works;
      slot = more.slot ∙ inv.slot;
      others = others_then _ _ _ _ _ (ap (λ (slot : Slot StoreFrames). slot.number) inv.slot) inv.others more.others;
      attached = more.attached ∙ inv.attached;
      honest = more.honest ∙ inv.honest;
    }

pub plan_first-requires-clause-agrees : goal.plan_first-requires-clause-agrees
plan_first-requires-clause-agrees g c =
    agrees_told g.C.PageCache.pages _ _ c.loop-rest.invariant.honest _ _ c.loop-rest.invariant.reserves.agrees

pub returns-in-Err-clause-told : goal.returns-in-Err-clause-told
returns-in-Err-clause-told g c = λ told.
    told_planned c.args.store.now _ c.in-Err.fault c.loop-rest.invariant.reserves.same
    (c.in-Err.ensures.told (subst IsTrue (sym c.loop-rest.invariant.honest) told))

pub returns-in-Err-clause-fails : goal.returns-in-Err-clause-fails
returns-in-Err-clause-fails g c = fails_as c.in-Err.fault _ _ _ c.loop-rest.invariant.failed c.in-Err.ensures.fails

pub returns-in-Err-clause-reserves : goal.returns-in-Err-clause-reserves
returns-in-Err-clause-reserves g c =
    reserve_then g.C.PageCache.pages _ _ _ _ _ _ _ _ _ _ c.loop-rest.invariant.reserves
    (of_honest_too g.C.PageCache.pages _ _ c.loop-rest.invariant.honest _ _ _ _ _ _ c.in-Err.ensures.reserves)

pub returns-in-Err-clause-cause : goal.returns-in-Err-clause-cause
returns-in-Err-clause-cause g c = λ works.
    let inv = c.loop-rest.invariant in
    cause_later c.in-Err.fault _ _ _ (inv.count works) (c.in-Err.ensures.cause (inv.failed ∙ works))

pub returns-in-Ok-reserve-clause-reserves : goal.returns-in-Ok-reserve-clause-reserves
returns-in-Ok-reserve-clause-reserves g c =
    room_behind g.C.PageCache.pages _ _ _ _ _ _ _ _ c.loop-rest.invariant.reserves c.reserve.ensures.same

pub returns-in-Err-reserve-clause-reserves : goal.returns-in-Err-reserve-clause-reserves
returns-in-Err-reserve-clause-reserves g c =
    room_behind g.C.PageCache.pages _ _ _ _ _ _ _ _ c.loop-rest.invariant.reserves c.reserve.ensures.same

pub returns-in-Ok-reserve-clause-planned : goal.returns-in-Ok-reserve-clause-planned
returns-in-Ok-reserve-clause-planned g c =
    let inv = c.loop-rest.invariant in
    planned_all c.args.changes.now (store_contents c.args.store.now).terms c.loop-rest.plan.merged c.loop-rest.plan.next _ _ _
    (planned_end c.args.changes.now c.loop-rest.rest.now _ _ _ _ _ _ inv.planned c.loop-rest-test.false) inv.few

pub returns-in-Ok-reserve-clause-deltas : goal.returns-in-Ok-reserve-clause-deltas
returns-in-Ok-reserve-clause-deltas g c = λ number.
    let planned = c.loop-rest.invariant.planned in
    omega (arith, room_for_all _ planned.parts _ _ c.requires.none planned.added planned.enough number, c.in-Ok-reserve.ensures.deltas number)

pub returns-in-Err-clause-others : goal.returns-in-Err-clause-others
returns-in-Err-clause-others g c =
    others_then _ _ _ _ _ (ap (λ (slot : Slot StoreFrames). slot.number) c.loop-rest.invariant.slot) c.loop-rest.invariant.others c.in-Err.ensures.others

pub returns-in-Ok-reserve-clause-others : goal.returns-in-Ok-reserve-clause-others
returns-in-Ok-reserve-clause-others g c = others_still _ _ _ _ c.reserve.ensures.same.slots c.loop-rest.invariant.others

pub returns-in-Err-reserve-clause-others : goal.returns-in-Err-reserve-clause-others
returns-in-Err-reserve-clause-others g c = others_still _ _ _ _ c.reserve.ensures.same.slots c.loop-rest.invariant.others
