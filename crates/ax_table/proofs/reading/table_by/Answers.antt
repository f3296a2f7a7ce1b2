use Rattle.ax_table.proofs.ReadsLaws.{nothing_read, same_fault, same_ok}
use Rattle.ax_table.proofs.reading.table_by.Goals as goal

pub returns-in-Err-clause-reads : goal.returns-in-Err-clause-reads
returns-in-Err-clause-reads g c = nothing_read g.C.PageCache.pages _ _ _ c.args.store.now _ _ c.requires.agrees (λ fails. fails)

pub returns-in-Ok-fill_table-clause-reads : goal.returns-in-Ok-fill_table-clause-reads
returns-in-Ok-fill_table-clause-reads g c = same_ok g.C.PageCache.pages _ _ _ _ _ _ _ _ _ _ c.in-Ok-fill_table.ensures.reads

pub returns-in-Err-fill_table-clause-reads : goal.returns-in-Err-fill_table-clause-reads
returns-in-Err-fill_table-clause-reads g c = same_fault g.C.PageCache.pages _ _ _ _ _ _ _ _ _ c.in-Err-fill_table.ensures.reads
