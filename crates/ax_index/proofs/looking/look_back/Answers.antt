use Rattle.std.proofs.Common.{◌-◌, Bool, refl, sym, subst, ◌∙◌, arith, rules, ap}
use Rattle.std.specs.Prelude.{IsTrue}
use Rattle.ax_index.proofs.CallLemmas.{cause_later}
use Rattle.ax_index.specs.Damage.{FailsWith}
use Rattle.ax_pages.specs.Contents.{term_page}
use Rattle.ax_store.specs.Store.{store_contents}
use Rattle.ax_index.proofs.DeltaParts.{count_parts, delta_there, newest_says, quiet_before, quiet_end}
use Rattle.ax_index.proofs.GrammarLemmas.{from_end, from_less, from_step, looked_to}
use Rattle.ax_index.proofs.Unmoved.{same_terms}
use Rattle.ax_index.proofs.ReadsLaws.{nothing_read, of_honest, others_itself, others_then, read_then}
use Rattle.ax_pool.specs.declared.slot.Slot.{Slot}
use Rattle.ax_store.specs.declared.store.StoreFrames.{StoreFrames}
use Rattle.ax_index.proofs.looking.look_back.Goals as goal

pub loop-i-init : goal.loop-i-init
loop-i-init g c =
    let page = term_page c.args.page (store_contents c.args.store.now).terms in
    record {
      quiet = λ honest deltas are. quiet_end page deltas are c.args.pair.now c.parts-i.result c.parts-i.ensures;
      met = λ honest. from_end page c.parts-i.result c.parts-i.ensures;
      from = omega (arith, count_parts page, c.parts-i.ensures);
      within = omega (arith, c.parts-i.ensures);
      reads = nothing_read g.C.PageCache.pages _ c.args.store.now _ _ c.requires.agrees;
      failed = refl;
      count = λ works. refl;
      slot = search rules;
      others = others_itself _ _;
      attached = search rules;
      honest = search rules;
    }

pub returns-then-is_some-clause-said : goal.returns-then-is_some-clause-said
returns-then-is_some-clause-said g c = λ honest deltas are.
    let page = term_page c.args.page (store_contents c.args.store.now).terms in
    let inv = c.loop-i.invariant in
    newest_says page deltas are c.args.pair.now (c.loop-i.i - 1) c.loop-i.i c.in-Ok.said (omega arith) (omega arith) (omega arith)
    (inv.quiet honest deltas are)
    (c.in-Ok.ensures.said (subst IsTrue (sym inv.honest) honest) _
    (delta_there _ _ c.args.page deltas (same_terms _ _ inv.reads.same.same) are (c.loop-i.i - 1) (omega arith) (omega arith)))
    (sym c.is_some.ensures ∙ c.if-is_some.true)

pub loop-i-preserved : goal.loop-i-preserved
loop-i-preserved g c =
    let page = term_page c.args.page (store_contents c.args.store.now).terms in
    let inv = c.loop-i.invariant in
    let more = c.in-Ok.ensures in
    record {
      quiet = λ honest deltas are.
          quiet_before page deltas are c.args.pair.now (c.loop-i.i - 1) c.loop-i.i c.in-Ok.said (omega arith) (omega arith) (omega arith)
          (inv.quiet honest deltas are)
          (more.said (subst IsTrue (sym inv.honest) honest) _
          (delta_there _ _ c.args.page deltas (same_terms _ _ inv.reads.same.same) are (c.loop-i.i - 1) (omega arith) (omega arith)))
          (sym c.is_some.ensures ∙ c.if-is_some.false);
      met = λ honest.
          from_step (store_contents c.args.store.now).terms _ c.args.page (c.loop-i.i - 1) c.loop-i.i (same_terms _ _ inv.reads.same.same) (omega arith)
          (more.met (subst IsTrue (sym inv.honest) honest)) (inv.met honest);
      from = omega arith;
      within = omega arith;
      reads = read_then g.C.PageCache.pages _ _ _ _ _ _ _ _ _ _ inv.reads (of_honest g.C.PageCache.pages _ _ inv.honest _ _ _ _ _ _ more.reads);
      failed = more.fails ∙ inv.failed;
      count = λ works. (more.cause (inv.failed ∙ works)).uncounted ∙ inv.count works;
      slot = more.slot ∙ inv.slot;
      others = others_then _ _ _ _ _ (ap (λ (slot : Slot StoreFrames). slot.number) inv.slot) inv.others more.others;
      attached = more.attached ∙ inv.attached;
      honest = more.honest ∙ inv.honest;
    }

pub returns-then-is_some-clause-met : goal.returns-then-is_some-clause-met
returns-then-is_some-clause-met g c = λ honest.
    let inv = c.loop-i.invariant in
    let same = same_terms _ _ inv.reads.same.same in
    let told = subst IsTrue (sym inv.honest) honest in
    looked_to (store_contents c.args.store.now).terms _ c.args.page (c.loop-i.i - 1) c.args.pair.now c.in-Ok.said same (omega arith) (omega arith)
    (c.in-Ok.ensures.met told) (c.in-Ok.ensures.said told)
    (from_step (store_contents c.args.store.now).terms _ c.args.page (c.loop-i.i - 1) c.loop-i.i same (omega arith) (c.in-Ok.ensures.met told) (inv.met honest))
    (sym c.is_some.ensures ∙ c.if-is_some.true)

pub returns-clause-met : goal.returns-clause-met
returns-clause-met g c = λ honest.
    from_less (term_page c.args.page (store_contents c.args.store.now).terms) c.loop-i.i _
    (omega (arith, c.loop-i-test.false, c.oldest_delta-first.ensures)) (c.loop-i.invariant.met honest)

pub look_at-requires-clause-agrees : goal.look_at-requires-clause-agrees
look_at-requires-clause-agrees g c = λ honest works. c.loop-i.invariant.reads.agrees (subst IsTrue c.loop-i.invariant.honest honest) works

pub returns-in-Err-clause-fails : goal.returns-in-Err-clause-fails
returns-in-Err-clause-fails g c =
    subst (λ (before : Bool). FailsWith c.in-Err.fault before c.look_at.new.store.failed) c.loop-i.invariant.failed c.in-Err.ensures.fails

pub returns-in-Err-clause-reads : goal.returns-in-Err-clause-reads
returns-in-Err-clause-reads g c =
    read_then g.C.PageCache.pages _ _ _ _ _ _ _ _ _ _ c.loop-i.invariant.reads
    (of_honest g.C.PageCache.pages _ _ c.loop-i.invariant.honest _ _ _ _ _ _ c.in-Err.ensures.reads)

pub returns-then-is_some-clause-reads : goal.returns-then-is_some-clause-reads
returns-then-is_some-clause-reads g c =
    read_then g.C.PageCache.pages _ _ _ _ _ _ _ _ _ _ c.loop-i.invariant.reads
    (of_honest g.C.PageCache.pages _ _ c.loop-i.invariant.honest _ _ _ _ _ _ c.in-Ok.ensures.reads)

pub returns-in-Err-clause-cause : goal.returns-in-Err-clause-cause
returns-in-Err-clause-cause g c = λ works.
    cause_later c.in-Err.fault _ _ _ (c.loop-i.invariant.count works) (c.in-Err.ensures.cause (c.loop-i.invariant.failed ∙ works))

pub returns-then-is_some-clause-fails : goal.returns-then-is_some-clause-fails
returns-then-is_some-clause-fails g c = c.in-Ok.ensures.fails ∙ c.loop-i.invariant.failed

pub returns-clause-fails : goal.returns-clause-fails
returns-clause-fails g c = c.loop-i.invariant.failed

pub returns-in-Err-clause-others : goal.returns-in-Err-clause-others
returns-in-Err-clause-others g c =
    others_then _ _ _ _ _ (ap (λ (slot : Slot StoreFrames). slot.number) c.loop-i.invariant.slot) c.loop-i.invariant.others c.in-Err.ensures.others

pub returns-then-is_some-clause-others : goal.returns-then-is_some-clause-others
returns-then-is_some-clause-others g c =
    others_then _ _ _ _ _ (ap (λ (slot : Slot StoreFrames). slot.number) c.loop-i.invariant.slot) c.loop-i.invariant.others c.in-Ok.ensures.others
