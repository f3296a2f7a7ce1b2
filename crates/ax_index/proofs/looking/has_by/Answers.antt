use Rattle.std.proofs.Common.{ap, sym, subst}
use Rattle.std.specs.Prelude.{IsTrue}
use Rattle.ax_index.proofs.IndexPages.{by_base, by_delta}
use Rattle.ax_index.proofs.ReadsLaws.{agrees_told, of_honest, others_then, read_then}
use Rattle.ax_index.proofs.Unmoved.{same_terms}
use Rattle.ax_pool.specs.declared.slot.Slot.{Slot}
use Rattle.ax_store.specs.declared.store.StoreFrames.{StoreFrames}
use Rattle.ax_index.proofs.GrammarLemmas.{looked_by_base, looked_by_delta}
use Rattle.ax_index.proofs.looking.has_by.Goals as goal

pub returns-in-Some-clause-has : goal.returns-in-Some-clause-has
returns-in-Some-clause-has g c = λ honest set is.
    by_delta _ set c.args.pair.now c.page_of_pair-page.result is
    c.page_of_pair-page.ensures
    c.in-Ok.said (c.in-Ok.ensures.said honest) c.in-Some.added c.in-Some.is

pub returns-in-None-clause-has : goal.returns-in-None-clause-has
returns-in-None-clause-has g c = λ honest set is.
    by_base _ set c.args.pair.now c.page_of_pair-page.result is
    c.page_of_pair-page.ensures
    c.in-Ok.said (c.in-Ok.ensures.said honest) _ c.base_has.result c.in-None.is
    (same_terms _ _ c.in-Ok.ensures.reads.same.same)
    (c.base_has.ensures.has (subst IsTrue (sym c.look_back.ensures.honest) honest))

pub base_has-requires-clause-agrees : goal.base_has-requires-clause-agrees
base_has-requires-clause-agrees g c =
    agrees_told g.C.PageCache.pages _ _ c.look_back.ensures.honest _ _ c.in-Ok.ensures.reads.agrees

pub returns-in-None-clause-reads : goal.returns-in-None-clause-reads
returns-in-None-clause-reads g c =
    read_then g.C.PageCache.pages _ _ _ _ _ _ _ _ _ _ c.in-Ok.ensures.reads
    (of_honest g.C.PageCache.pages _ _ c.look_back.ensures.honest _ _ _ _ _ _ c.base_has.ensures.reads)

pub returns-in-None-clause-others : goal.returns-in-None-clause-others
returns-in-None-clause-others g c =
    others_then _ _ _ _ _ (ap (λ (slot : Slot StoreFrames). slot.number) c.look_back.ensures.slot) c.in-Ok.ensures.others c.base_has.ensures.others

pub returns-in-Some-clause-met : goal.returns-in-Some-clause-met
returns-in-Some-clause-met g c = λ honest.
    looked_by_delta _ c.page_of_pair-page.result c.args.pair.now c.in-Ok.said c.in-Some.added c.page_of_pair-page.ensures c.in-Some.is
    (c.in-Ok.ensures.met honest)

pub returns-in-None-clause-met : goal.returns-in-None-clause-met
returns-in-None-clause-met g c = λ honest.
    let told = subst IsTrue (sym c.look_back.ensures.honest) honest in
    looked_by_base c.base_has.result _ _ c.page_of_pair-page.result c.args.pair.now c.in-Ok.said c.page_of_pair-page.ensures c.in-None.is
    (same_terms _ _ c.in-Ok.ensures.reads.same.same) (c.in-Ok.ensures.met honest) (c.in-Ok.ensures.said honest)
    (c.base_has.ensures.met told) (c.base_has.ensures.has told)
