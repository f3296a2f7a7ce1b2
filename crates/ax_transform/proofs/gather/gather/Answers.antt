-- Each turn adds the next document that is behind, and reads its text alone.
use Rattle.std.proofs.Common.{◌-◌, subst, ◌∙◌, arith}
use Rattle.ax_area.specs.Contents.{Contents}
use Rattle.ax_index.proofs.Unmoved.{same_contents}
use Rattle.ax_store.specs.Store.{store_contents}
use Rattle.ax_transform.proofs.Looking.{looks_failed, looks_on}
use Rattle.ax_transform.proofs.Walked.{added_to, all_gathered, fetched_so_far, fetched_then, one_gathered, rest_gathered}
use Rattle.ax_transform.specs.Steps.{Fetches}
use Rattle.ax_transform.proofs.gather.gather.Goals as goal

pub loop-left-preserved : goal.loop-left-preserved
loop-left-preserved g c =
    let inv = c.loop-left.invariant in
    let same = same_contents c.args.store.now c.loop-left.store inv.looks.reads.same.same in
    let disk = c.gather_next.new.disk in
    record {
      has = one_gathered (g.D.Disk.is_honest c.args.disk.now) c.args.table.now (store_contents c.args.store.now) c.args.count _ _ _ _ inv.has
          c.gather_next.new.moves (c.loop-left.left - 1) c.gather_next.new.steps
          (added_to c.args.table.now _ _ _ _ inv.honest _ _ same _ _ c.in-Ok-true.field-0-test c.in-Ok-true.ensures.added)
          (omega (arith, c.loop-left-test.true)) (omega (arith, c.gather_next.ensures.fetched.counted)) c.gather_next.ensures.one;
      looks = looks_on g.C.PageCache.pages _ _ inv.honest _ _ c.gather_next.new.store _ _ (g.D.Disk.history disk (g.D.Disk.attached disk)) _ _
          (g.D.Disk.faults disk) tt inv.looks _ tt c.in-Ok-true.ensures.leaves;
      attached = c.gather_next.ensures.attached ∙ inv.attached;
      honest = c.gather_next.ensures.honest ∙ inv.honest;
    }

pub returns-in-Ok-false-clause-found : goal.returns-in-Ok-false-clause-found
returns-in-Ok-false-clause-found g c =
    let inv = c.loop-left.invariant in
    let same = same_contents c.args.store.now c.loop-left.store inv.looks.reads.same.same in
    rest_gathered (g.D.Disk.is_honest c.args.disk.now) c.args.table.now (store_contents c.args.store.now) c.args.count _ _ _ _ inv.has
    c.gather_next.new.moves
    (added_to c.args.table.now _ _ _ _ inv.honest _ _ same _ _ c.in-Ok-false.field-0-test c.in-Ok-false.ensures.added)

pub returns-in-Ok-false-clause-fetched : goal.returns-in-Ok-false-clause-fetched
returns-in-Ok-false-clause-fetched g c =
    let inv = c.loop-left.invariant in
    let same = same_contents c.args.store.now c.loop-left.store inv.looks.reads.same.same in
    fetched_then (g.D.Disk.is_honest c.args.disk.now) c.args.table.now (store_contents c.args.store.now) c.args.count _ _ _ _ inv.has
    c.gather_next.new.steps
    (subst
    (λ (contents : Contents). Fetches contents c.args.table.now.current c.loop-left.moves.last c.loop-left.steps c.gather_next.new.steps)
    same c.gather_next.ensures.fetched)

pub returns-in-Ok-false-clause-leaves : goal.returns-in-Ok-false-clause-leaves
returns-in-Ok-false-clause-leaves g c =
    looks_on g.C.PageCache.pages _ _ c.loop-left.invariant.honest _ _ _ _ _ _ _ _ _ tt c.loop-left.invariant.looks _ _ c.in-Ok-false.ensures.leaves

pub returns-in-Err-clause-fetched : goal.returns-in-Err-clause-fetched
returns-in-Err-clause-fetched g c =
    let inv = c.loop-left.invariant in
    let same = same_contents c.args.store.now c.loop-left.store inv.looks.reads.same.same in
    fetched_then (g.D.Disk.is_honest c.args.disk.now) c.args.table.now (store_contents c.args.store.now) c.args.count _ _ _ _ inv.has
    c.gather_next.new.steps
    (subst
    (λ (contents : Contents). Fetches contents c.args.table.now.current c.loop-left.moves.last c.loop-left.steps c.gather_next.new.steps)
    same c.gather_next.ensures.fetched)

pub returns-in-Err-clause-leaves : goal.returns-in-Err-clause-leaves
returns-in-Err-clause-leaves g c =
    looks_failed g.C.PageCache.pages _ _ c.loop-left.invariant.honest _ _ _ _ _ _ _ _ _ tt c.loop-left.invariant.looks _ c.in-Err.ensures.leaves

pub returns-clause-fetched : goal.returns-clause-fetched
returns-clause-fetched g c =
    fetched_so_far (g.D.Disk.is_honest c.args.disk.now) c.args.table.now (store_contents c.args.store.now) c.args.count _ _ _ _
    c.loop-left.invariant.has

pub returns-clause-found : goal.returns-clause-found
returns-clause-found g c =
    all_gathered (g.D.Disk.is_honest c.args.disk.now) c.args.table.now (store_contents c.args.store.now) c.args.count _ _ _ _
    c.loop-left.invariant.has (omega (arith, c.loop-left-test.false))
