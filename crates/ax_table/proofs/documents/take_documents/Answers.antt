use Rattle.std.proofs.Common.{ℕ, Option, refl, sym, ap, subst, ◌∙◌}
use Rattle.std.specs.Prelude.{IsTrue}
use Rattle.ax_pool.specs.declared.slot.Slot.{Slot}
use Rattle.ax_store.specs.declared.store.StoreFrames.{StoreFrames}
use Rattle.ax_store.specs.Store.{store_contents}
use Rattle.ax_table.proofs.Answering.{count_refuted, first_held, held_here, next_held, next_less, pass_on, room_here, still_slot}
use Rattle.ax_table.proofs.Passing.{IsPassed, pass_all, pass_none}
use Rattle.ax_table.proofs.ReadsLaws.{agrees_told, nothing_read, read_on}
use Rattle.ax_table.proofs.Telling.{table_back}
use Rattle.ax_table.proofs.documents.take_documents.Goals as goal

pub returns-in-Err-clause-told : goal.returns-in-Err-clause-told
returns-in-Err-clause-told g c = λ honest works.
    absurd (count_refuted g.C.PageCache.pages _ c.args.store.now _ c.requires.agrees honest works c.in-Err.ensures.many)

pub returns-in-Err-clause-reads : goal.returns-in-Err-clause-reads
returns-in-Err-clause-reads g c =
    nothing_read g.C.PageCache.pages _ _ _ c.args.store.now _ _ c.requires.agrees (λ fails. c.in-Err.ensures.fault fails)

pub loop-next-init : goal.loop-next-init
loop-next-init g c = record {
  passed = pass_none _ (store_contents c.args.store.now) c.first_document-next.result c.args.table.now c.first_document-next.ensures c.requires.started;
  few = c.in-Ok.ensures.few;
  held = first_held (store_contents c.args.store.now).documents c.first_document-next.result c.first_document-next.ensures;
  reads = nothing_read g.C.PageCache.pages _ _ _ c.args.store.now _ _ c.requires.agrees (λ fails. fails);
  slot = refl;
  steps = refl;
  attached = refl;
  honest = refl;
}

pub take_document-requires-clause-held : goal.take_document-requires-clause-held
take_document-requires-clause-held g c =
    held_here (g.D.Disk.is_honest c.args.disk.now) c.args.store.now c.loop-next.store c.loop-next.invariant.reads.reads.same c.in-Some.number _ c.in-Some.is
    c.loop-next.invariant.held

pub take_document-requires-clause-room : goal.take_document-requires-clause-room
take_document-requires-clause-room g c =
    room_here (g.D.Disk.is_honest c.args.disk.now) c.args.store.now c.loop-next.store c.loop-next.invariant.reads.reads.same c.in-Some.number _ c.in-Some.is
    _ c.loop-next.invariant.passed
    c.loop-next.invariant.few

pub take_document-requires-clause-slot : goal.take_document-requires-clause-slot
take_document-requires-clause-slot g c =
    still_slot c.args.store.now c.loop-next.store _ _ _ c.loop-next.invariant.reads.others c.loop-next.invariant.slot c.requires.slot

pub take_document-requires-clause-agrees : goal.take_document-requires-clause-agrees
take_document-requires-clause-agrees g c =
    agrees_told g.C.PageCache.pages _ _ c.loop-next.invariant.honest 0 0 refl _ _ c.loop-next.invariant.reads.reads.agrees

pub returns-in-Err-take_document-clause-told : goal.returns-in-Err-take_document-clause-told
returns-in-Err-take_document-clause-told g c = λ honest works.
    table_back c.args.store.now _ c.in-Err-take_document.fault c.loop-next.invariant.reads.reads.same
    (c.in-Err-take_document.ensures.told (subst IsTrue (sym c.loop-next.invariant.honest) honest) (c.loop-next.invariant.reads.fails ∙ works))

pub returns-in-Err-take_document-clause-reads : goal.returns-in-Err-take_document-clause-reads
returns-in-Err-take_document-clause-reads g c =
    read_on g.C.PageCache.pages _ _ c.loop-next.invariant.honest _ _ (ap (λ (slot : Slot StoreFrames). slot.number) c.loop-next.invariant.slot)
    _ _ _ _ _ _ _ _ _ _ _ c.loop-next.invariant.reads c.in-Err-take_document.ensures.reads

pub loop-next-smaller : goal.loop-next-smaller
loop-next-smaller g c =
    next_less _ _ c.loop-next.invariant.honest c.args.store.now c.loop-next.store c.take_document.new.store c.loop-next.invariant.reads.reads.same
    c.in-Ok-take_document.ensures.reads.reads.same
    c.in-Some.number c.next_document-next.result _ c.in-Some.is c.next_document-next.ensures.found c.next_document-next.ensures.none
    c.loop-next.invariant.held

pub loop-next-preserved : goal.loop-next-preserved
loop-next-preserved g c =
    let inv = c.loop-next.invariant in
    let more = c.in-Ok-take_document.ensures in
    record {
      passed = pass_on _ _ inv.honest c.args.store.now c.loop-next.store c.take_document.new.store inv.reads.reads.same more.reads.reads.same
          c.in-Some.number _ _
          c.next_document-next.result _ c.in-Some.is inv.held inv.passed more.takes c.next_document-next.ensures.found c.next_document-next.ensures.none;
      few = inv.few;
      held = next_held _ _ inv.honest c.args.store.now c.loop-next.store c.take_document.new.store inv.reads.reads.same more.reads.reads.same
          c.in-Some.number c.next_document-next.result
          c.next_document-next.ensures.found;
      reads = read_on g.C.PageCache.pages _ _ inv.honest _ _ (ap (λ (slot : Slot StoreFrames). slot.number) inv.slot) _ _ _ _ _ _ _ _ _ _ _
          inv.reads more.reads;
      slot = more.slot ∙ inv.slot;
      steps = more.steps ∙ inv.steps;
      attached = more.attached ∙ inv.attached;
      honest = more.honest ∙ inv.honest;
    }

pub returns-clause-filled : goal.returns-clause-filled
returns-clause-filled g c =
    pass_all (g.D.Disk.is_honest c.args.disk.now) (store_contents c.args.store.now) c.loop-next.table c.loop-next.invariant.few
    (subst (λ (o : Option ℕ). IsPassed (g.D.Disk.is_honest c.args.disk.now) (store_contents c.args.store.now) o c.loop-next.table) c.in_default.is
    c.loop-next.invariant.passed)
