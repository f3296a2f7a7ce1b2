use Rattle.std.proofs.Common.{◌≡◌, ◌<◌, false, length}
use Rattle.std.specs.Prelude.{IsTrue, IfSome}
use Rattle.ax_pages.specs.TermPages.{AreApart}
use Rattle.ax_pairs.specs.Index.{IsIndex}
use Rattle.ax_pairs.specs.PairSets.{PairSet}
use Rattle.ax_store.specs.Store.{store_contents, store_failed, store_slots}
use Rattle.ax_index.specs.Reads.{Reads}
use Rattle.ax_index.proofs.Gathering.{IsGathered}
use Rattle.ax_index.proofs.GrammarLemmas.{AreMetTo}
use Rattle.ax_index.proofs.Standing.{AreTakenTo}
use Rattle.ax_index.proofs.PageWalk.{steps_left}
use Rattle.ax_store.specs.Slots.{AreOthersSame}
use Rattle.ax_index.proofs.numbers.gathered.Given as goal

abbrev pub invariant-loop-next : goal.invariant-loop-next
invariant-loop-next g l = record {
  gathered : IsTrue (g.D.Disk.is_honest l.fn.disk) → (set : PairSet) → IsIndex (store_contents l.fn.store).terms set
      → IsGathered l.ranges set (store_contents l.fn.store).terms l.next l.numbers.items;
  met : IsTrue (g.D.Disk.is_honest l.fn.disk) → AreApart (store_contents l.fn.store).terms → AreMetTo l.ranges (store_contents l.fn.store).terms l.next;
  taken : IsTrue (g.D.Disk.is_honest l.fn.disk) → AreApart (store_contents l.fn.store).terms
      → AreTakenTo l.ranges (store_contents l.fn.store).terms l.next l.numbers.items;
  there : IfSome l.next (λ page. page < length (store_contents l.fn.store).terms);
  reads : Reads g.C.PageCache.pages (g.D.Disk.is_honest l.fn.disk) l.fn.store l.store
      (g.D.Disk.history l.fn.disk (g.D.Disk.attached l.fn.disk)) (g.D.Disk.history l.disk (g.D.Disk.attached l.disk))
      (g.D.Disk.faults l.fn.disk) (g.D.Disk.faults l.disk);
  failed : store_failed l.store ≡ store_failed l.fn.store;
  count : store_failed l.fn.store ≡ false → g.D.Disk.faults l.disk ≡ g.D.Disk.faults l.fn.disk;
  slot : l.slot ≡ l.fn.slot;
  others : AreOthersSame l.fn.slot.number (store_slots l.fn.store) (store_slots l.store);
  attached : g.D.Disk.attached l.disk ≡ g.D.Disk.attached l.fn.disk;
  honest : g.D.Disk.is_honest l.disk ≡ g.D.Disk.is_honest l.fn.disk;
}

abbrev pub decreases-loop-next : goal.decreases-loop-next
decreases-loop-next g l = steps_left l.next (store_contents l.fn.store).terms
