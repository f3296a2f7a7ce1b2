use Rattle.std.proofs.Common.{List, sym, subst, ◌∙◌}
use Rattle.ax_frame.specs.Part.{PartValue}
use Rattle.ax_store.specs.Batch.{batch_parts}
use Rattle.ax_store.specs.Store.{store_parts}
use Rattle.ax_store.proofs.CommitLemmas.{within_allowed}
use Rattle.ax_store.proofs.StoreLemmas.{agrees_same}
use Rattle.ax_store_tests.proofs.ManyParts.{AreMany, one_more, many_fit, many_taken, many_within}
use Rattle.ax_store_tests.proofs.tests.many_parts.commit_parts.Goals as goal

pub commit-requires-clause-agrees : goal.commit-requires-clause-agrees
commit-requires-clause-agrees g c = λ honest works.
    agrees_same g.C.PageCache.pages c.reserve.new.self c.reserve-2.new.self _ c.reserve-2.ensures.same
    (agrees_same g.C.PageCache.pages c.args.store.now c.reserve.new.self _ c.reserve.ensures.same (c.requires.agrees honest))

pub commit-requires-clause-within : goal.commit-requires-clause-within
commit-requires-clause-within g c =
    let parts = batch_parts c.in-Ok-seal.batch in
    let many : AreMany parts = subst (λ (ps : List PartValue). AreMany ps) (sym (c.in-Ok-seal.ensures.parts ∙ c.in-Ok-add.ensures.ok))
    (one_more (batch_parts c.loop-made.batch) c.loop-made.invariant) in
    within_allowed parts (store_parts c.reserve-2.new.self) (many_fit parts many) (many_within parts (store_parts c.reserve-2.new.self) many)

pub commit-requires-clause-deltas : goal.commit-requires-clause-deltas
commit-requires-clause-deltas g c =
    let parts = batch_parts c.in-Ok-seal.batch in
    let many : AreMany parts = subst (λ (ps : List PartValue). AreMany ps) (sym (c.in-Ok-seal.ensures.parts ∙ c.in-Ok-add.ensures.ok))
    (one_more (batch_parts c.loop-made.batch) c.loop-made.invariant) in
    many_taken parts c.reserve-2.new.self.pages many

pub loop-made-preserved : goal.loop-made-preserved
loop-made-preserved g c =
    subst (λ (ps : List PartValue). AreMany ps) (sym c.in-Ok.ensures.ok) (one_more (batch_parts c.loop-made.batch) c.loop-made.invariant)
