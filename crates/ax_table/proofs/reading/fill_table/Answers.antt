use Rattle.std.proofs.Common.{refl, sym, ap, subst, ◌∙◌}
use Rattle.std.specs.Prelude.{IsTrue}
use Rattle.std.proofs.lemmas.Result.{on_ok_weaker}
use Rattle.ax_area.specs.Contents.{Contents}
use Rattle.ax_pool.specs.declared.slot.Slot.{Slot}
use Rattle.ax_store.specs.declared.store.StoreFrames.{StoreFrames}
use Rattle.ax_store.specs.Store.{store_contents}
use Rattle.ax_table.specs.Filling.{AreNumbersGiven}
use Rattle.ax_table.proofs.Answering.{filled_told, started_told, still_slot, told_twins, twins_result}
use Rattle.ax_table.proofs.ReadsLaws.{agrees_told, read_on, read_only}
use Rattle.ax_table.proofs.TableLaws.{contents_apart, filled_agrees}
use Rattle.ax_table.proofs.Telling.{same_contents, table_back}
use Rattle.ax_table.proofs.reading.fill_table.Goals as goal

pub take_documents-requires-clause-started : goal.take_documents-requires-clause-started
take_documents-requires-clause-started g c =
    started_told _ _ c.in-Ok.ensures.honest c.args.store.now _ c.in-Ok.ensures.reads.reads.same _ c.in-Ok.ensures.started

pub take_documents-requires-clause-slot : goal.take_documents-requires-clause-slot
take_documents-requires-clause-slot g c =
    still_slot c.args.store.now c.take_now.new.store _ _ _ c.in-Ok.ensures.reads.others c.in-Ok.ensures.slot c.requires.slot

pub take_documents-requires-clause-agrees : goal.take_documents-requires-clause-agrees
take_documents-requires-clause-agrees g c =
    agrees_told g.C.PageCache.pages _ _ c.in-Ok.ensures.honest 0 0 refl _ _ c.in-Ok.ensures.reads.reads.agrees

pub returns-in-Err-take_documents-clause-told : goal.returns-in-Err-take_documents-clause-told
returns-in-Err-take_documents-clause-told g c = λ honest works.
    table_back c.args.store.now _ c.in-Err-take_documents.fault c.in-Ok.ensures.reads.reads.same
    (c.in-Err-take_documents.ensures.told (subst IsTrue (sym c.in-Ok.ensures.honest) honest) (c.in-Ok.ensures.reads.fails ∙ works))

pub returns-in-Err-take_documents-clause-reads : goal.returns-in-Err-take_documents-clause-reads
returns-in-Err-take_documents-clause-reads g c =
    read_on g.C.PageCache.pages _ _ c.in-Ok.ensures.honest _ _ (ap (λ (slot : Slot StoreFrames). slot.number) c.in-Ok.ensures.slot)
    _ _ _ _ _ _ _ _ _ _ _ c.in-Ok.ensures.reads c.in-Err-take_documents.ensures.reads

pub check_apart-requires : goal.check_apart-requires
check_apart-requires g c =
    subst (λ (contents : Contents). AreNumbersGiven c.take_documents.new.table contents)
    (sym (same_contents c.take_now.new.store c.take_documents.new.store c.in-Ok-take_documents.ensures.reads.reads.same))
    c.in-Ok-take_documents.ensures.filled.given.numbers

pub returns-clause-table : goal.returns-clause-table
returns-clause-table g c =
    let filled = filled_told _ _ c.in-Ok.ensures.honest c.args.store.now c.take_now.new.store c.in-Ok.ensures.reads.reads.same
    c.take_documents.new.table c.in-Ok-take_documents.ensures.filled in
    on_ok_weaker c.check_apart.result (filled_agrees _ c.take_documents.new.table (store_contents c.args.store.now) filled) c.check_apart.ensures.apart

pub returns-clause-apart : goal.returns-clause-apart
returns-clause-apart g c = λ honest.
    let filled = filled_told _ _ c.in-Ok.ensures.honest c.args.store.now c.take_now.new.store c.in-Ok.ensures.reads.reads.same
    c.take_documents.new.table c.in-Ok-take_documents.ensures.filled in
    on_ok_weaker c.check_apart.result (contents_apart _ c.take_documents.new.table (store_contents c.args.store.now) filled honest)
    c.check_apart.ensures.apart

pub returns-clause-told : goal.returns-clause-told
returns-clause-told g c = λ honest works.
    let filled = filled_told _ _ c.in-Ok.ensures.honest c.args.store.now c.take_now.new.store c.in-Ok.ensures.reads.reads.same
    c.take_documents.new.table c.in-Ok-take_documents.ensures.filled in
    told_twins _ c.take_documents.new.table c.args.store.now c.take_documents.new.store c.check_apart.result
    (record {
      logged = c.in-Ok-take_documents.ensures.reads.reads.same.logged ∙ c.in-Ok.ensures.reads.reads.same.logged;
      pages = c.in-Ok-take_documents.ensures.reads.reads.same.pages ∙ c.in-Ok.ensures.reads.reads.same.pages;
    })
    filled honest c.check_apart.ensures.told

pub returns-clause-reads : goal.returns-clause-reads
returns-clause-reads g c =
    read_only g.C.PageCache.pages _ _ tt c.check_apart.result _ _ _ _ _ _
    (read_on g.C.PageCache.pages _ _ c.in-Ok.ensures.honest _ _ (ap (λ (slot : Slot StoreFrames). slot.number) c.in-Ok.ensures.slot)
    _ _ _ _ _ _ _ _ _ _ _ c.in-Ok.ensures.reads c.in-Ok-take_documents.ensures.reads)
    (twins_result c.take_documents.new.store c.take_documents.new.table c.check_apart.result c.check_apart.ensures.told)
