use Rattle.std.proofs.Common.{inl, inr, refl, sym, ap, subst, ◌∙◌}
use Rattle.std.proofs.Common.{arith}
use Rattle.std.specs.Prelude.{IsTrue}
use Rattle.ax_pages.specs.declared.page.Page.TheVariants.{Meta}
use Rattle.ax_policy.specs.Table.{Table}
use Rattle.ax_pool.specs.declared.slot.Slot.{Slot}
use Rattle.ax_store.specs.declared.store.StoreFrames.{StoreFrames}
use Rattle.ax_store.specs.Store.{store_contents, store_parts}
use Rattle.ax_table.specs.Filling.{PutsGiven}
use Rattle.ax_table.proofs.Answering.{given_told, gives_told, meta_there, now_refuted, still_slot}
use Rattle.ax_table.proofs.ReadsLaws.{agrees_told, nothing_read, read_on}
use Rattle.ax_table.proofs.TableLaws.{begun, started}
use Rattle.ax_table.proofs.Telling.{needed_told, placed_apart, policy_back}
use Rattle.ax_table.proofs.reading.take_now.Goals as goal

pub damaged_at-requires : goal.damaged_at-requires
damaged_at-requires g c = meta_there (store_parts c.args.store.now) c.meta.result.now c.meta.ensures.now c.in_default.ensures.none

pub returns-in_default-clause-told : goal.returns-in_default-clause-told
returns-in_default-clause-told g c = λ honest works.
    absurd (now_refuted g.C.PageCache.pages _ c.args.store.now _ c.requires.agrees honest works c.meta.result.now c.meta.ensures.now
    c.in_default.ensures.none)

pub returns-in_default-clause-reads : goal.returns-in_default-clause-reads
returns-in_default-clause-reads g c =
    nothing_read g.C.PageCache.pages _ _ _ c.args.store.now _ _ c.requires.agrees
    (placed_apart c.args.store.now Meta c.damaged_at.result c.damaged_at.ensures)

pub put_policy-requires-clause-given : goal.put_policy-requires-clause-given
put_policy-requires-clause-given g c = record { few = omega arith; given = refl }

pub returns-in-Err-clause-told : goal.returns-in-Err-clause-told
returns-in-Err-clause-told g c = λ honest works. needed_told 0 c.args.store.now c.in-Err.fault (inr refl) (c.in-Err.ensures.told honest)

pub give_policy-requires-clause-given : goal.give_policy-requires-clause-given
give_policy-requires-clause-given g c =
    given_told c.args.store.now _ c.in-Some.now c.in-Ok.ensures.reads.reads.same c.in-Some.ensures.given

pub give_policy-requires-clause-slot : goal.give_policy-requires-clause-slot
give_policy-requires-clause-slot g c =
    still_slot c.args.store.now c.put_policy.new.store _ _ _ c.in-Ok.ensures.reads.others c.in-Ok.ensures.slot c.requires.slot

pub give_policy-requires-clause-agrees : goal.give_policy-requires-clause-agrees
give_policy-requires-clause-agrees g c =
    agrees_told g.C.PageCache.pages _ _ c.in-Ok.ensures.honest 0 0 refl _ _ c.in-Ok.ensures.reads.reads.agrees

pub returns-in-Err-give_policy-clause-told : goal.returns-in-Err-give_policy-clause-told
returns-in-Err-give_policy-clause-told g c = λ honest works.
    needed_told c.in-Some.now c.args.store.now c.in-Err-give_policy.fault (inl (inl (c.in-Some.ensures.same ∙ c.meta.ensures.now)))
    (policy_back c.in-Some.now c.args.store.now _ c.in-Err-give_policy.fault c.in-Ok.ensures.reads.reads.same
    (c.in-Err-give_policy.ensures.told (subst IsTrue (sym c.in-Ok.ensures.honest) honest)))

pub returns-in-Err-give_policy-clause-reads : goal.returns-in-Err-give_policy-clause-reads
returns-in-Err-give_policy-clause-reads g c =
    read_on g.C.PageCache.pages _ _ c.in-Ok.ensures.honest _ _ (ap (λ (slot : Slot StoreFrames). slot.number) c.in-Ok.ensures.slot)
    _ _ _ _ _ _ _ _ _ _ _ c.in-Ok.ensures.reads c.in-Err-give_policy.ensures.reads

pub start-requires : goal.start-requires
start-requires g c = c.in-Ok-give_policy.ensures.gives.there

pub returns-clause-started : goal.returns-clause-started
returns-clause-started g c =
    started (g.D.Disk.is_honest c.args.disk.now) c.in-Some.now (store_contents c.args.store.now) _ _ _ (c.in-Some.ensures.same ∙ c.meta.ensures.now)
    (begun (g.D.Disk.is_honest c.args.disk.now) (store_contents c.args.store.now) _
    (subst (λ (t : Table). PutsGiven (g.D.Disk.is_honest c.args.disk.now) 0 (store_contents c.args.store.now) t c.put_policy.new.table) c.requires.fresh
    c.in-Ok.ensures.puts))
    (gives_told _ _ c.in-Ok.ensures.honest c.args.store.now _ c.in-Ok.ensures.reads.reads.same c.in-Some.now _ _ c.in-Ok-give_policy.ensures.gives)
    c.start.ensures

pub returns-clause-reads : goal.returns-clause-reads
returns-clause-reads g c =
    read_on g.C.PageCache.pages _ _ c.in-Ok.ensures.honest _ _ (ap (λ (slot : Slot StoreFrames). slot.number) c.in-Ok.ensures.slot)
    _ _ _ _ _ _ _ _ _ _ _ c.in-Ok.ensures.reads c.in-Ok-give_policy.ensures.reads
