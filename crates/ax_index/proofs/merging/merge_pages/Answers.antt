use Rattle.std.proofs.Common.{◌≡◌, ◌∙◌, ap, arith, refl, subst, sym}
use Rattle.std.specs.Prelude.{IsTrue}
use Rattle.ax_store.specs.Store.{store_contents}
use Rattle.ax_index.proofs.CallLemmas.{fails_as, cause_later}
use Rattle.ax_index.proofs.MergingLemmas.{merge_step_on, merged_end, merged_none, number_small, walk_shorter}
use Rattle.ax_index.proofs.ReadsLaws.{agrees_told, nothing_read, of_honest, others_itself, others_then, read_then}
use Rattle.ax_index.proofs.Unmoved.{same_terms, told_back}
use Rattle.ax_pool.specs.declared.slot.Slot.{Slot}
use Rattle.ax_store.specs.declared.store.StoreFrames.{StoreFrames}
use Rattle.ax_index.proofs.merging.merge_pages.Goals as goal

pub loop-at-init : goal.loop-at-init
loop-at-init g c = record {
  merging = merged_none c.page_of.result (store_contents c.args.store.now).terms c.pages-next.result _ c.page_of.ensures c.pages-next.ensures;
  most = omega arith;
  reads = nothing_read g.C.PageCache.pages _ c.args.store.now _ _ c.requires.agrees;
  failed = refl;
  count = λ works. refl;
  slot = refl;
  others = others_itself _ _;
  attached = refl;
  honest = refl;
}

pub merge_one-requires-clause-agrees : goal.merge_one-requires-clause-agrees
merge_one-requires-clause-agrees g c =
    agrees_told g.C.PageCache.pages _ _ c.loop-at.invariant.honest _ _ c.loop-at.invariant.reads.agrees

pub loop-at-smaller : goal.loop-at-smaller
loop-at-smaller g c =
    let after : (store_contents c.merge_one.new.store).terms ≡ (store_contents c.args.store.now).terms =
    same_terms _ _ c.in-Ok.ensures.reads.same.same ∙ same_terms _ _ c.loop-at.invariant.reads.same.same
    in
    walk_shorter c.loop-at.at c.next_page-at.result c.in-Some.page (store_contents c.args.store.now).terms _ c.in-Some.is after c.next_page-at.ensures.found

pub loop-at-preserved : goal.loop-at-preserved
loop-at-preserved g c =
    let inv = c.loop-at.invariant in
    let more = c.in-Ok.ensures in
    let now : (store_contents c.loop-at.store).terms ≡ (store_contents c.args.store.now).terms =
    same_terms _ _ inv.reads.same.same
    in
    let after : (store_contents c.merge_one.new.store).terms ≡ (store_contents c.args.store.now).terms =
    same_terms _ _ more.reads.same.same ∙ now
    in
    record {
      merging = merge_step_on _ _ c.in-Some.page c.loop-at.at c.next_page-at.result (store_contents c.args.store.now).terms
          (store_contents c.loop-at.store).terms
          (store_contents c.merge_one.new.store).terms c.loop-at.merged c.loop-at.next c.merge_one.new.next c.as_number-merged.result c.in-Ok.done _ _ _
          inv.honest c.in-Some.is now after
          c.as_number-merged.ensures more.step c.next_page-at.ensures.found c.next_page-at.ensures.none inv.merging;
      most = omega (arith, c.are_enough.ensures.fewer c.if-are_enough.false, number_small c.in-Ok.done, c.as_number-merged.ensures);
      reads = read_then g.C.PageCache.pages _ _ _ _ _ _ _ _ _ _ inv.reads
          (of_honest g.C.PageCache.pages _ _ inv.honest _ _ _ _ _ _ more.reads);
      failed = more.fails ∙ inv.failed;
      count = λ works. (more.cause (inv.failed ∙ works)).uncounted ∙ inv.count works;
      slot = more.slot ∙ inv.slot;
      others = others_then _ _ _ _ _ (ap (λ (slot : Slot StoreFrames). slot.number) inv.slot) inv.others more.others;
      attached = more.attached ∙ inv.attached;
      honest = more.honest ∙ inv.honest;
    }

pub returns-in-Err-clause-told : goal.returns-in-Err-clause-told
returns-in-Err-clause-told g c = λ told.
    told_back c.args.store.now _ c.in-Err.fault c.loop-at.invariant.reads.same.same
    (c.in-Err.ensures.told (subst IsTrue (sym c.loop-at.invariant.honest) told))

pub returns-in-Err-clause-fails : goal.returns-in-Err-clause-fails
returns-in-Err-clause-fails g c = fails_as c.in-Err.fault _ _ _ c.loop-at.invariant.failed c.in-Err.ensures.fails

pub returns-in-Err-clause-reads : goal.returns-in-Err-clause-reads
returns-in-Err-clause-reads g c =
    read_then g.C.PageCache.pages _ _ _ _ _ _ _ _ _ _ c.loop-at.invariant.reads
    (of_honest g.C.PageCache.pages _ _ c.loop-at.invariant.honest _ _ _ _ _ _ c.in-Err.ensures.reads)

pub returns-in-Err-clause-cause : goal.returns-in-Err-clause-cause
returns-in-Err-clause-cause g c = λ works.
    let inv = c.loop-at.invariant in
    cause_later c.in-Err.fault _ _ _ (inv.count works) (c.in-Err.ensures.cause (inv.failed ∙ works))

pub returns-clause-merged : goal.returns-clause-merged
returns-clause-merged g c =
    merged_end c.loop-at.at (store_contents c.args.store.now).terms c.args.n c.loop-at.merged c.loop-at.next _ _ c.in_default.is
    c.loop-at.invariant.merging c.loop-at.invariant.most

pub returns-in-Err-clause-others : goal.returns-in-Err-clause-others
returns-in-Err-clause-others g c =
    others_then _ _ _ _ _ (ap (λ (slot : Slot StoreFrames). slot.number) c.loop-at.invariant.slot) c.loop-at.invariant.others c.in-Err.ensures.others
