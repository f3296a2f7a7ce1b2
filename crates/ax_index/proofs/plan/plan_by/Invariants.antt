use Rattle.std.proofs.Common.{◌≡◌, ◌≤◌, false, length}
use Rattle.ax_delta.specs.Changes.{changed_pairs}
use Rattle.ax_pair.specs.Order.{Rise}
use Rattle.ax_store.specs.Batch.{batch_parts}
use Rattle.ax_store.specs.Store.{store_contents, store_failed, store_room, store_slots}
use Rattle.ax_index.specs.DeltaSizes.{HaveShortTerms}
use Rattle.ax_index.specs.Planning.{IsPlannedTo}
use Rattle.ax_index.specs.Reads.{Reserves}
use Rattle.ax_store.specs.Slots.{AreOthersSame}
use Rattle.ax_index.proofs.plan.plan_by.Given as goal

abbrev pub invariant-loop-rest : goal.invariant-loop-rest
invariant-loop-rest g l = record {
  rise : Rise (changed_pairs l.rest);
  short : HaveShortTerms l.rest;
  planned : IsPlannedTo (g.D.Disk.is_honest l.fn.disk) l.changes l.rest (store_contents l.fn.store).terms l.plan.merged l.plan.next
      (λ number. store_room number l.store) (batch_parts l.fn.batch) (batch_parts l.batch);
  few : l.plan.merged ≤ 16;
  reserves : Reserves g.C.PageCache.pages (g.D.Disk.is_honest l.fn.disk) l.fn.store l.store
      (g.D.Disk.history l.fn.disk (g.D.Disk.attached l.fn.disk)) (g.D.Disk.history l.disk (g.D.Disk.attached l.disk))
      (g.D.Disk.faults l.fn.disk) (g.D.Disk.faults l.disk);
  failed : store_failed l.store ≡ store_failed l.fn.store;
  count : store_failed l.fn.store ≡ false → g.D.Disk.faults l.disk ≡ g.D.Disk.faults l.fn.disk;
  slot : l.slot ≡ l.fn.slot;
  others : AreOthersSame l.fn.slot.number (store_slots l.fn.store) (store_slots l.store);
  attached : g.D.Disk.attached l.disk ≡ g.D.Disk.attached l.fn.disk;
  honest : g.D.Disk.is_honest l.disk ≡ g.D.Disk.is_honest l.fn.disk;
}

abbrev pub decreases-loop-rest : goal.decreases-loop-rest
decreases-loop-rest g l = length l.rest
