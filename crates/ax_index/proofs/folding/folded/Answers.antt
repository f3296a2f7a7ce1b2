use Rattle.std.proofs.Common.{Bool, ◌+◌, ◌<◌, length, refl, sym, subst, ◌∙◌, arith, ap}
use Rattle.std.specs.Prelude.{IsTrue}
use Rattle.ax_pages.specs.Contents.{term_page, term_parts}
use Rattle.ax_store.specs.Store.{store_contents}
use Rattle.ax_index.proofs.DeltaParts.{count_parts, delta_there}
use Rattle.ax_index.proofs.FoldedPairs.{folded_end, folded_start, folded_step}
use Rattle.ax_index.proofs.GrammarLemmas.{in_grammar, up_to_start, up_to_step}
use Rattle.ax_index.proofs.Unmoved.{same_terms}
use Rattle.ax_index.proofs.ReadsLaws.{of_honest, others_then, read_then}
use Rattle.ax_index.proofs.CallLemmas.{cause_later}
use Rattle.ax_index.specs.Damage.{FailsWith}
use Rattle.ax_pool.specs.declared.slot.Slot.{Slot}
use Rattle.ax_store.specs.declared.store.StoreFrames.{StoreFrames}
use Rattle.ax_index.proofs.folding.folded.Goals as goal

pub loop-i-init : goal.loop-i-init
loop-i-init g c =
    let page = term_page c.args.page (store_contents c.args.store.now).terms in
    let first = c.in-Ok.ensures in
    record {
      folded = λ honest. folded_start c.args.wanted.now page c.oldest_delta-first.result c.in-Ok.pairs c.oldest_delta-first.ensures (first.has honest);
      rise = first.rise;
      base = first.met;
      deltas = λ honest. up_to_start page c.oldest_delta-first.result c.oldest_delta-first.ensures;
      from = omega (arith, c.oldest_delta-first.ensures);
      within = omega (arith, c.oldest_delta-first.ensures, count_parts page);
      reads = first.reads;
      failed = first.fails;
      count = λ works. (first.cause works).uncounted;
      slot = first.slot;
      others = first.others;
      attached = first.attached;
      honest = first.honest;
    }

pub loop-i-preserved : goal.loop-i-preserved
loop-i-preserved g c =
    let page = term_page c.args.page (store_contents c.args.store.now).terms in
    let inv = c.loop-i.invariant in
    let more = c.in-Ok-merge_at.ensures in
    let there : c.loop-i.i < length (term_parts page) = omega (arith, c.loop-i-test.true, c.parts-parts.ensures) in
    record {
      folded = λ honest. folded_step c.args.wanted.now page c.loop-i.i (c.loop-i.i + 1) c.loop-i.pairs c.in-Ok-merge_at.after inv.from there refl
          (λ deltas are. more.merged (subst IsTrue (sym inv.honest) honest) _
          (delta_there _ _ c.args.page deltas (same_terms _ _ inv.reads.same.same) are c.loop-i.i inv.from there))
          (inv.folded honest);
      rise = more.rise;
      base = inv.base;
      deltas = λ honest. up_to_step (store_contents c.args.store.now).terms _ c.args.page c.loop-i.i (c.loop-i.i + 1) (same_terms _ _ inv.reads.same.same) refl
          (more.met (subst IsTrue (sym inv.honest) honest)) (inv.deltas honest);
      from = omega (arith, inv.from);
      within = omega (arith, there);
      reads = read_then g.C.PageCache.pages _ _ _ _ _ _ _ _ _ _ inv.reads (of_honest g.C.PageCache.pages _ _ inv.honest _ _ _ _ _ _ more.reads);
      failed = more.fails ∙ inv.failed;
      count = λ works. (more.cause (inv.failed ∙ works)).uncounted ∙ inv.count works;
      slot = more.slot ∙ inv.slot;
      others = others_then _ _ _ _ _ (ap (λ (slot : Slot StoreFrames). slot.number) inv.slot) inv.others more.others;
      attached = more.attached ∙ inv.attached;
      honest = more.honest ∙ inv.honest;
    }

pub returns-clause-has : goal.returns-clause-has
returns-clause-has g c = λ honest pairs of.
    let page = term_page c.args.page (store_contents c.args.store.now).terms in
    let inv = c.loop-i.invariant in
    folded_end c.args.wanted.now page c.loop-i.i c.loop-i.pairs pairs (omega (arith, c.loop-i-test.false, c.parts-parts.ensures, inv.within))
    inv.rise (inv.folded honest) of

pub returns-clause-met : goal.returns-clause-met
returns-clause-met g c = λ honest.
    let inv = c.loop-i.invariant in
    in_grammar (term_page c.args.page (store_contents c.args.store.now).terms) (inv.base honest)
    (λ n from there. inv.deltas honest n from (omega (arith, c.loop-i-test.false, c.parts-parts.ensures, there)))

pub merge_at-requires-clause-agrees : goal.merge_at-requires-clause-agrees
merge_at-requires-clause-agrees g c = λ honest works. c.loop-i.invariant.reads.agrees (subst IsTrue c.loop-i.invariant.honest honest) works

pub returns-in-Err-merge_at-clause-fails : goal.returns-in-Err-merge_at-clause-fails
returns-in-Err-merge_at-clause-fails g c =
    subst (λ (before : Bool). FailsWith c.in-Err-merge_at.fault before c.merge_at.new.store.failed) c.loop-i.invariant.failed c.in-Err-merge_at.ensures.fails

pub returns-in-Err-merge_at-clause-reads : goal.returns-in-Err-merge_at-clause-reads
returns-in-Err-merge_at-clause-reads g c =
    read_then g.C.PageCache.pages _ _ _ _ _ _ _ _ _ _ c.loop-i.invariant.reads
    (of_honest g.C.PageCache.pages _ _ c.loop-i.invariant.honest _ _ _ _ _ _ c.in-Err-merge_at.ensures.reads)

pub returns-in-Err-merge_at-clause-cause : goal.returns-in-Err-merge_at-clause-cause
returns-in-Err-merge_at-clause-cause g c = λ works.
    cause_later c.in-Err-merge_at.fault _ _ _ (c.loop-i.invariant.count works) (c.in-Err-merge_at.ensures.cause (c.loop-i.invariant.failed ∙ works))

pub returns-in-Err-merge_at-clause-others : goal.returns-in-Err-merge_at-clause-others
returns-in-Err-merge_at-clause-others g c =
    others_then _ _ _ _ _ (ap (λ (slot : Slot StoreFrames). slot.number) c.loop-i.invariant.slot) c.loop-i.invariant.others c.in-Err-merge_at.ensures.others
