-- What was gathered is of the next documents that are behind, as many as are no longer wanted; the store was only read.
use Rattle.std.proofs.Common.{◌≡◌, Ok}
use Rattle.ax_store.specs.Store.{store_contents}
use Rattle.ax_transform.proofs.Walked.{HasGathered}
use Rattle.ax_write.specs.Writes.{Looks}
use Rattle.ax_transform.proofs.gather.gather.Given as goal

abbrev pub decreases-loop-left : goal.decreases-loop-left
decreases-loop-left g l = l.left

abbrev pub invariant-loop-left : goal.invariant-loop-left
invariant-loop-left g l = record {
  has : HasGathered (g.D.Disk.is_honest l.fn.disk) l.table (store_contents l.fn.store) l.count l.left l.fn.steps l.steps l.moves;
  looks : Looks {T = Unit {0}} g.C.PageCache.pages (g.D.Disk.is_honest l.fn.disk) (Ok tt) l.fn.store l.store
      (g.D.Disk.history l.fn.disk (g.D.Disk.attached l.fn.disk)) (g.D.Disk.history l.disk (g.D.Disk.attached l.disk))
      (g.D.Disk.faults l.fn.disk) (g.D.Disk.faults l.disk);
  attached : g.D.Disk.attached l.disk ≡ g.D.Disk.attached l.fn.disk;
  honest : g.D.Disk.is_honest l.disk ≡ g.D.Disk.is_honest l.fn.disk;
}
