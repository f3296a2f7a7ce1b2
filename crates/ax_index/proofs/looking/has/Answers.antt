use Rattle.std.proofs.Common.{ℕ, List, ap, subst}
use Rattle.std.specs.Prelude.{IfOk}
use Rattle.ax_pages.specs.Contents.{TermPage, term_page}
use Rattle.ax_pages.specs.TermPages.{IsPageOf}
use Rattle.ax_pool.specs.declared.slot.Slot.{Slot}
use Rattle.ax_store.specs.Kept.{Kept}
use Rattle.ax_store.specs.Store.{store_slots}
use Rattle.ax_store.specs.declared.store.StoreFrames.{StoreFrames}
use Rattle.ax_index.specs.Grammar.{IsLookedAt}
use Rattle.ax_index.proofs.ReadsLaws.{agrees_taken, keeps_around, read_around}
use Rattle.ax_index.proofs.Unmoved.{slots_back}
use Rattle.ax_index.proofs.looking.has.Goals as goal

pub has_by-found-requires-clause-agrees : goal.has_by-found-requires-clause-agrees
has_by-found-requires-clause-agrees g c =
    agrees_taken g.C.PageCache.pages _ c.args.store.now _ _ c.in-Some.ensures.same c.requires.agrees

pub returns-clause-reads : goal.returns-clause-reads
returns-clause-reads g c =
    read_around g.C.PageCache.pages _ c.args.store.now _ _ c.give_slot.new.self _ _ _ _ c.in-Some.ensures.same
    c.has_by-found.ensures.reads c.give_slot.ensures.same
    (slots_back _ _ _ _ _ _ c.in-Some.ensures.was_free c.in-Some.ensures.taken c.has_by-found.ensures.reads.same.taken
    (ap (λ (slot : Slot StoreFrames). slot.number) c.has_by-found.ensures.slot) c.give_slot.ensures.free)

pub returns-clause-others : goal.returns-clause-others
returns-clause-others g c =
    keeps_around _ _ _ _ (store_slots c.give_slot.new.self) c.in-Some.ensures.was_free c.in-Some.ensures.bytes
    c.has_by-found.ensures.others c.give_slot.ensures.bytes

pub returns-clause-met : goal.returns-clause-met
returns-clause-met g c = λ honest.
    subst
    (λ (pages : List TermPage). IfOk c.has_by-found.result
    (λ found. (page : ℕ) × IsPageOf c.args.pair.now page pages × IsLookedAt c.args.pair.now found (term_page page pages)))
    (ap (λ (kept : Kept). kept.contents.terms) c.in-Some.ensures.same.pages)
    (c.has_by-found.ensures.met honest)
