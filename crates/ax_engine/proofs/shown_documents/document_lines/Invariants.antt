-- The text so far, and then the lines of the rows that are left, are those of all rows.
use Rattle.std.proofs.Common.{◌≡◌, ◌++◌, drop}
use Rattle.std.specs.Prelude.{IsTrue}
use Rattle.ax_container.specs.Container.{Container}
use Rattle.ax_image.specs.Documents.{ContentsHold}
use Rattle.ax_store.specs.Store.{store_contents}
use Rattle.ax_engine.specs.Scans.{Scanned}
use Rattle.ax_engine.proofs.InOrder.{pairs}
use Rattle.ax_engine.proofs.RowLines.{lines_of_documents}
use Rattle.ax_engine.proofs.shown_documents.document_lines.Given as goal

abbrev pub invariant-loop-row : goal.invariant-loop-row
invariant-loop-row g l = record {
  lines : IsTrue (g.D.Disk.is_honest l.fn.disk) → (container : Container)
      → ContentsHold (store_contents l.fn.store) container
      → l.lines.items ++ lines_of_documents (pairs container.entries) (drop l.row-index l.rows)
      ≡ lines_of_documents (pairs container.entries) l.rows;
  scans : Scanned g.C.PageCache.pages (g.D.Disk.is_honest l.fn.disk) l.fn.store l.store l.ahead
      (g.D.Disk.history l.fn.disk (g.D.Disk.attached l.fn.disk)) (g.D.Disk.history l.disk (g.D.Disk.attached l.disk))
      (g.D.Disk.faults l.fn.disk) (g.D.Disk.faults l.disk);
  attached : g.D.Disk.attached l.disk ≡ g.D.Disk.attached l.fn.disk;
  honest : g.D.Disk.is_honest l.disk ≡ g.D.Disk.is_honest l.fn.disk;
}
