use Rattle.std.proofs.Common.{◌≡◌, ◌≤◌, false}
use Rattle.ax_store.specs.Batch.{batch_parts}
use Rattle.ax_store.specs.Store.{store_contents, store_failed, store_slots}
use Rattle.ax_index.specs.Merging.{IsMergedTo}
use Rattle.ax_index.specs.Reads.{Reads}
use Rattle.ax_index.proofs.PageWalk.{steps_left}
use Rattle.ax_store.specs.Slots.{AreOthersSame}
use Rattle.ax_index.proofs.merging.merge_pages.Given as goal

abbrev pub invariant-loop-at : goal.invariant-loop-at
invariant-loop-at g l = record {
  merging : IsMergedTo (g.D.Disk.is_honest l.fn.disk) l.at (store_contents l.fn.store).terms l.merged l.next (batch_parts l.fn.batch) (batch_parts l.batch);
  most : l.merged ≤ l.n;
  reads : Reads g.C.PageCache.pages (g.D.Disk.is_honest l.fn.disk) l.fn.store l.store
      (g.D.Disk.history l.fn.disk (g.D.Disk.attached l.fn.disk)) (g.D.Disk.history l.disk (g.D.Disk.attached l.disk))
      (g.D.Disk.faults l.fn.disk) (g.D.Disk.faults l.disk);
  failed : store_failed l.store ≡ store_failed l.fn.store;
  count : store_failed l.fn.store ≡ false → g.D.Disk.faults l.disk ≡ g.D.Disk.faults l.fn.disk;
  slot : l.slot ≡ l.fn.slot;
  others : AreOthersSame l.fn.slot.number (store_slots l.fn.store) (store_slots l.store);
  attached : g.D.Disk.attached l.disk ≡ g.D.Disk.attached l.fn.disk;
  honest : g.D.Disk.is_honest l.disk ≡ g.D.Disk.is_honest l.fn.disk;
}

abbrev pub decreases-loop-at : goal.decreases-loop-at
decreases-loop-at g l = steps_left l.at (store_contents l.fn.store).terms
