use Rattle.std.proofs.Common.{ap, ◌∙◌, false, slice_set}
use Rattle.ax_pool.specs.declared.slot.Slot.{Slot}
use Rattle.ax_store.specs.declared.store.StoreFrames.{StoreFrames}
use Rattle.ax_store.specs.Store.{store_slots}
use Rattle.ax_table.proofs.Answering.{took_apart, took_table, took_told}
use Rattle.ax_table.proofs.ReadsLaws.{agrees_taken, cause_around, fails_around, keeps_around, reads_around}
use Rattle.ax_table.proofs.reading.read_table.Goals as goal

pub table_by-table-requires-clause-agrees : goal.table_by-table-requires-clause-agrees
table_by-table-requires-clause-agrees g c =
    agrees_taken g.C.PageCache.pages _ c.args.store.now _ _ c.in-Some.ensures.same c.requires.agrees

pub returns-clause-table : goal.returns-clause-table
returns-clause-table g c = took_table c.args.store.now _ c.in-Some.ensures.same _ c.table_by-table.result c.table_by-table.ensures.table

pub returns-clause-apart : goal.returns-clause-apart
returns-clause-apart g c = λ honest.
    took_apart c.args.store.now _ c.in-Some.ensures.same c.table_by-table.result (c.table_by-table.ensures.apart honest)

pub returns-clause-told : goal.returns-clause-told
returns-clause-told g c = λ honest works.
    took_told c.args.store.now _ c.in-Some.ensures.same c.table_by-table.result (c.table_by-table.ensures.told honest (c.in-Some.ensures.same.failed ∙ works))

pub returns-clause-reads : goal.returns-clause-reads
returns-clause-reads g c =
    reads_around g.C.PageCache.pages _ c.table_by-table.result _ c.args.store.now _ _ c.give_slot.new.self _ _ _ _ c.in-Some.ensures.same
    c.table_by-table.ensures.reads c.give_slot.ensures.same

pub returns-clause-others : goal.returns-clause-others
returns-clause-others g c =
    keeps_around g.C.PageCache.pages _ c.table_by-table.result _ c.args.store.now _ _ c.give_slot.new.self _ _ _ _ c.in-Some.ensures.same
    c.table_by-table.ensures.reads c.give_slot.ensures.same c.in-Some.ensures.was_free c.in-Some.ensures.taken c.in-Some.ensures.bytes
    (c.give_slot.ensures.free
    ∙ ap (λ (slot : Slot StoreFrames). slice_set (store_slots c.table_by-table.new.store).taken slot.number false) c.table_by-table.ensures.slot)
    c.give_slot.ensures.bytes

pub returns-clause-fails : goal.returns-clause-fails
returns-clause-fails g c =
    fails_around g.C.PageCache.pages _ c.table_by-table.result _ c.args.store.now _ _ c.give_slot.new.self _ _ _ _ c.in-Some.ensures.same
    c.table_by-table.ensures.reads c.give_slot.ensures.same

pub returns-clause-cause : goal.returns-clause-cause
returns-clause-cause g c =
    cause_around g.C.PageCache.pages _ c.table_by-table.result _ c.args.store.now _ _ c.give_slot.new.self _ _ _ _ c.in-Some.ensures.same
    c.table_by-table.ensures.reads c.give_slot.ensures.same
