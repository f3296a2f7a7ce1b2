use Rattle.std.proofs.Common.{◌≡◌, ◌⊎◌, Some, List, rules, sym, ap, subst, ◌∙◌}
use Rattle.std.specs.Prelude.{IsTrue}
use denote.Enum.Bare.{differs_false, differs_true}
use Rattle.ax_pages.specs.Contents.{TermPage}
use Rattle.ax_pairs.specs.Index.{IsIndex}
use Rattle.ax_store.specs.Store.{store_contents, store_slots}
use Rattle.ax_index.specs.Grammar.{AreInGrammar}
use Rattle.ax_index.proofs.ReadsLaws.{of_honest, read_then}
use Rattle.ax_index.proofs.Unmoved.{same_terms}
use Rattle.ax_candidates.specs.contracts.points.Kind.{the_type}
use Rattle.ax_candidates.specs.Meeting.{IsAsked}
use Rattle.ax_candidates.specs.Points.{kind_of}
use Rattle.ax_candidates.proofs.OfKind.{begun_more, met_more, met_still, none_still, read_more, read_still}
use Rattle.ax_candidates.proofs.Passing.{keeps_then}
use Rattle.ax_candidates.proofs.finding.met_with.Goals as goal

pub loop-ranges-preserved-then-ne : goal.loop-ranges-preserved-then-ne
loop-ranges-preserved-then-ne g c =
    let inv = c.loop-ranges.invariant in
    let kind = c.args.kind in
    let unions = c.args.unions.now in
    let i = c.loop-ranges.ranges-index in
    let here = c.ranges-item.result in
    let own = c.as_slice.result.now in
    let low = c.loop-ranges-test.true in
    let other : kind_of own ≡ kind → ⊥ = λ same. differs_true the_type c.kind_of.result kind (sym c.ne.ensures ∙ c.if-ne.true) (c.kind_of.ensures ∙ same) in
    record {
      numbers = λ told set is.
          met_still kind unions i here own set c.args.found c.loop-ranges.left low c.ranges-item.is c.as_slice.ensures other (inv.numbers told set is);
      rising = inv.rising;
      some = λ none.
          let (before, of_none) = inv.some none in
          (before, none_still kind unions i here own low c.ranges-item.is c.as_slice.ensures other of_none);
      met = λ told number left.
          read_still kind unions i here own (store_contents c.args.store.now).terms low c.ranges-item.is c.as_slice.ensures other (inv.met told number left);
      fewer = inv.fewer;
      begun = inv.begun;
      reads = inv.reads;
      others = inv.others;
      failed = inv.failed;
      count = inv.count;
      attached = inv.attached;
      honest = inv.honest;
    }

pub loop-ranges-preserved : goal.loop-ranges-preserved
loop-ranges-preserved g c =
    let terms = (store_contents c.args.store.now).terms in
    let inv = c.loop-ranges.invariant in
    let more = c.in-Ok.ensures in
    let kind = c.args.kind in
    let unions = c.args.unions.now in
    let i = c.loop-ranges.ranges-index in
    let here = c.ranges-item.result in
    let own = c.as_slice-in-loop-ranges.result.now in
    let alike : own ≡ here = c.as_slice-in-loop-ranges.ensures in
    let low = c.loop-ranges-test.true in
    let same : kind_of own ≡ kind =
    ap kind_of (alike ∙ sym c.as_slice.ensures) ∙ sym c.kind_of.ensures
    ∙ differs_false the_type (search rules) c.kind_of.result kind (sym c.ne.ensures ∙ c.if-ne.false) in
    let now : (store_contents c.loop-ranges.store).terms ≡ terms = same_terms _ _ inv.reads.same.same in
    record {
      numbers = λ told set is.
          met_more kind unions i here own set c.args.found c.loop-ranges.left c.in-Ok.numbers low c.ranges-item.is alike same (inv.numbers told set is)
          (more.numbers (subst IsTrue (sym inv.honest) told) set (subst (λ (ts : List TermPage). IsIndex ts set) (sym now) is));
      rising = more.rising;
      some = λ none. absurd (cc);
      met = λ told number left.
          read_more kind unions i here own terms low c.ranges-item.is alike (inv.met told number (more.fewer number left))
          (subst (AreInGrammar own) now (more.met (subst IsTrue (sym inv.honest) told) number left));
      fewer = λ number left. inv.fewer number (more.fewer number left);
      begun = λ told first.
          begun_more c.loop-ranges.left unions i here own terms c.in-Ok.numbers low c.ranges-item.is alike (inv.begun told first)
          (subst (λ (ts : List TermPage). (c.loop-ranges.left ≡ Some c.in-Ok.numbers) ⊎ IsAsked c.loop-ranges.left own ts c.in-Ok.numbers) now
          (more.asked (subst IsTrue (sym inv.honest) told)));
      reads = read_then g.C.PageCache.pages _ _ _ _ _ _ _ _ _ _ inv.reads
          (of_honest g.C.PageCache.pages _ _ inv.honest _ _ _ _ _ _ more.reads);
      others = keeps_then (store_slots c.args.store.now) (store_slots c.loop-ranges.store) (store_slots c.met_once.new.store) inv.reads.same.taken
          inv.others more.others;
      failed = more.fails ∙ inv.failed;
      count = λ works. (more.cause (inv.failed ∙ works)).uncounted ∙ inv.count works;
      attached = more.attached ∙ inv.attached;
      honest = more.honest ∙ inv.honest;
    }
