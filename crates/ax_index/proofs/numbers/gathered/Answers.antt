use Rattle.std.proofs.Common.{◌≡◌, ℕ, ◌<◌, List, Option, length, refl, sym, ap, subst, ◌∙◌, rules}
use Rattle.std.specs.Prelude.{IfSome, IsTrue}
use Rattle.ax_pages.specs.Contents.{TermPage}
use Rattle.ax_store.specs.Store.{store_contents}
use Rattle.ax_index.proofs.CallLemmas.{fails_as, cause_later}
use Rattle.ax_index.proofs.Gathering.{IsGathered, step_by, stop}
use Rattle.ax_index.proofs.GrammarLemmas.{AreMetTo, met_end, met_start, met_step}
use Rattle.ax_index.proofs.Standing.{AreTakenTo, taken_end, taken_start, taken_step}
use Rattle.ax_index.proofs.ReadsLaws.{agrees_told, nothing_read, of_honest, others_itself, others_then, read_then}
use Rattle.ax_index.proofs.Unmoved.{same_terms}
use Rattle.ax_pool.specs.declared.slot.Slot.{Slot}
use Rattle.ax_store.specs.declared.store.StoreFrames.{StoreFrames}
use Rattle.ax_index.proofs.numbers.gathered.Goals as goal

pub loop-next-init : goal.loop-next-init
loop-next-init g c = record {
  gathered = search rules;
  met = λ told apart. met_start c.args.ranges.now _ c.first_page-next.result c.first_page-next.ensures.reaches;
  taken = λ told apart. taken_start c.args.ranges.now _ c.first_page-next.result _ c.first_page-next.ensures.reaches;
  there = search rules;
  reads = nothing_read g.C.PageCache.pages _ c.args.store.now _ _ c.requires.agrees;
  failed = refl;
  count = λ works. refl;
  slot = search rules;
  others = others_itself _ _;
  attached = search rules;
  honest = search rules;
}

pub gather-requires-clause-agrees : goal.gather-requires-clause-agrees
gather-requires-clause-agrees g c =
    agrees_told g.C.PageCache.pages _ _ c.loop-next.invariant.honest _ _ c.loop-next.invariant.reads.agrees

pub loop-next-preserved : goal.loop-next-preserved
loop-next-preserved g c =
    let terms = (store_contents c.args.store.now).terms in
    let inv = c.loop-next.invariant in
    let more = c.in-Ok.ensures in
    let now : (store_contents c.loop-next.store).terms ≡ terms = same_terms _ _ inv.reads.same.same in
    let after : (store_contents c.gather.new.store).terms ≡ terms = same_terms _ _ more.reads.same.same ∙ now in
    record {
      gathered = λ told set is.
          step_by c.args.ranges.now set terms (store_contents c.loop-next.store).terms (store_contents c.gather.new.store).terms
          c.in-Some.page c.page_behind-next.result c.loop-next.numbers.items c.gather.new.numbers.items now after
          (more.numbers (subst IsTrue (sym inv.honest) told)) c.page_behind-next.ensures.reaches
          (subst (λ (o : Option ℕ). IfSome o (λ page. page < length terms)) c.in-Some.is inv.there)
          is
          (subst (λ (o : Option ℕ). IsGathered c.args.ranges.now set terms o c.loop-next.numbers.items) c.in-Some.is (inv.gathered told set is));
      met = λ told apart.
          met_step c.args.ranges.now terms (store_contents c.loop-next.store).terms (store_contents c.gather.new.store).terms
          c.in-Some.page c.page_behind-next.result now after
          (more.met (subst IsTrue (sym inv.honest) told)) c.page_behind-next.ensures.reaches
          (subst (λ (o : Option ℕ). IfSome o (λ page. page < length terms)) c.in-Some.is inv.there)
          apart
          (subst (λ (o : Option ℕ). AreMetTo c.args.ranges.now terms o) c.in-Some.is (inv.met told apart));
      taken = λ told apart.
          taken_step c.args.ranges.now terms (store_contents c.loop-next.store).terms (store_contents c.gather.new.store).terms
          c.in-Some.page c.page_behind-next.result c.loop-next.numbers.items c.gather.new.numbers.items now after
          (more.met (subst IsTrue (sym inv.honest) told)) (more.numbers (subst IsTrue (sym inv.honest) told)) c.page_behind-next.ensures.reaches
          (subst (λ (o : Option ℕ). IfSome o (λ page. page < length terms)) c.in-Some.is inv.there)
          apart
          (subst (λ (o : Option ℕ). AreTakenTo c.args.ranges.now terms o c.loop-next.numbers.items) c.in-Some.is (inv.taken told apart));
      there = subst (λ (ts : List TermPage). IfSome c.page_behind-next.result (λ page. page < length ts)) after c.page_behind-next.ensures.there;
      reads = read_then g.C.PageCache.pages _ _ _ _ _ _ _ _ _ _ inv.reads
          (of_honest g.C.PageCache.pages _ _ inv.honest _ _ _ _ _ _ more.reads);
      failed = more.fails ∙ inv.failed;
      count = λ works. (more.cause (inv.failed ∙ works)).uncounted ∙ inv.count works;
      slot = more.slot ∙ inv.slot;
      others = others_then _ _ _ _ _ (ap (λ (slot : Slot StoreFrames). slot.number) inv.slot) inv.others more.others;
      attached = more.attached ∙ inv.attached;
      honest = more.honest ∙ inv.honest;
    }

pub returns-in-Err-clause-fails : goal.returns-in-Err-clause-fails
returns-in-Err-clause-fails g c = fails_as c.in-Err.fault _ _ _ c.loop-next.invariant.failed c.in-Err.ensures.fails

pub returns-in-Err-clause-reads : goal.returns-in-Err-clause-reads
returns-in-Err-clause-reads g c =
    read_then g.C.PageCache.pages _ _ _ _ _ _ _ _ _ _ c.loop-next.invariant.reads
    (of_honest g.C.PageCache.pages _ _ c.loop-next.invariant.honest _ _ _ _ _ _ c.in-Err.ensures.reads)

pub returns-in-Err-clause-cause : goal.returns-in-Err-clause-cause
returns-in-Err-clause-cause g c = λ works.
    cause_later c.in-Err.fault _ _ _ (c.loop-next.invariant.count works) (c.in-Err.ensures.cause (c.loop-next.invariant.failed ∙ works))

pub returns-clause-numbers : goal.returns-clause-numbers
returns-clause-numbers g c = λ told set is.
    stop c.args.ranges.now set (store_contents c.args.store.now).terms c.loop-next.next c.loop-next.numbers.items c.in_default.is
    (c.loop-next.invariant.gathered told set is)

pub returns-clause-met : goal.returns-clause-met
returns-clause-met g c = λ told apart.
    met_end c.args.ranges.now (store_contents c.args.store.now).terms c.loop-next.next c.in_default.is (c.loop-next.invariant.met told apart)

pub returns-clause-all : goal.returns-clause-all
returns-clause-all g c = λ told apart.
    taken_end c.args.ranges.now (store_contents c.args.store.now).terms c.loop-next.next c.loop-next.numbers.items c.in_default.is
    (c.loop-next.invariant.taken told apart)

pub returns-in-Err-clause-others : goal.returns-in-Err-clause-others
returns-in-Err-clause-others g c =
    others_then _ _ _ _ _ (ap (λ (slot : Slot StoreFrames). slot.number) c.loop-next.invariant.slot) c.loop-next.invariant.others c.in-Err.ensures.others
