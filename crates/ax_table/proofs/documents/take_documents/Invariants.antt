use Rattle.std.proofs.Common.{◌≡◌, ◌≤◌, Ok}
use Rattle.std.specs.Prelude.{IfSome, IsTrue}
use Rattle.std.specs.FinMap as map
use Rattle.ax_pages.specs.AfterPart.{most_documents}
use Rattle.ax_store.specs.Store.{store_contents}
use Rattle.ax_table.specs.Reads.{ReadsBy}
use Rattle.ax_table.proofs.Passing.{IsPassed, ahead_count}
use Rattle.ax_table.proofs.documents.take_documents.Given as goal

abbrev pub decreases-loop-next : goal.decreases-loop-next
decreases-loop-next g l = ahead_count l.next (store_contents l.fn.store).documents

-- the documents before the next one are counted
abbrev pub invariant-loop-next : goal.invariant-loop-next
invariant-loop-next g l = record {
  passed : IsPassed (g.D.Disk.is_honest l.fn.disk) (store_contents l.fn.store) l.next l.table;
  few : map.len (store_contents l.fn.store).documents ≤ most_documents;
  held : IfSome l.next (λ number. IsTrue (map.contains_key (store_contents l.fn.store).documents number));
  reads : ReadsBy {T = Unit {0}} g.C.PageCache.pages (g.D.Disk.is_honest l.fn.disk) (Ok tt) l.fn.slot.number l.fn.store l.store
      (g.D.Disk.history l.fn.disk (g.D.Disk.attached l.fn.disk)) (g.D.Disk.history l.disk (g.D.Disk.attached l.disk))
      (g.D.Disk.faults l.fn.disk) (g.D.Disk.faults l.disk);
  slot : l.slot ≡ l.fn.slot;
  steps : l.steps ≡ l.fn.steps;
  attached : g.D.Disk.attached l.disk ≡ g.D.Disk.attached l.fn.disk;
  honest : g.D.Disk.is_honest l.disk ≡ g.D.Disk.is_honest l.fn.disk;
}
