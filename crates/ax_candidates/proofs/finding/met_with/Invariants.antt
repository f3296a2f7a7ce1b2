use Rattle.std.proofs.Common.{◌≡◌, ℕ, take, false, None}
use Rattle.std.specs.Prelude.{IsTrue, IfSome}
use Rattle.ax_gap.specs.Gaps.{IsRisingList}
use Rattle.ax_pairs.specs.Index.{IsIndex}
use Rattle.ax_pairs.specs.PairSets.{PairSet}
use Rattle.ax_store.specs.Store.{store_contents, store_failed, store_slots}
use Rattle.ax_index.specs.Reads.{KeepsTaken, Reads}
use Rattle.ax_candidates.specs.Meeting.{AreMetWith, AreOfKindInGrammar, IsBegun, IsLeft, IsNoneOfKind}
use Rattle.ax_candidates.proofs.finding.met_with.Given as goal

abbrev pub invariant-loop-ranges : goal.invariant-loop-ranges
invariant-loop-ranges g l = record {
  numbers : IsTrue (g.D.Disk.is_honest l.fn.disk) → (set : PairSet) → IsIndex (store_contents l.fn.store).terms set
      → AreMetWith l.kind (take l.ranges-index l.unions) l.fn.found set l.left;
  rising : IfSome l.left IsRisingList;
  some : l.left ≡ None → (l.fn.found ≡ None) × IsNoneOfKind l.kind (take l.ranges-index l.unions);
  met : IsTrue (g.D.Disk.is_honest l.fn.disk) → (number : ℕ) → IsLeft l.left number
      → AreOfKindInGrammar l.kind (take l.ranges-index l.unions) (store_contents l.fn.store).terms;
  fewer : (number : ℕ) → IsLeft l.left number → IsLeft l.fn.found number;
  begun : IsTrue (g.D.Disk.is_honest l.fn.disk) → IsBegun l.fn.found l.unions (store_contents l.fn.store).terms
      → IsBegun l.left l.unions (store_contents l.fn.store).terms;
  reads : Reads g.C.PageCache.pages (g.D.Disk.is_honest l.fn.disk) l.fn.store l.store
      (g.D.Disk.history l.fn.disk (g.D.Disk.attached l.fn.disk)) (g.D.Disk.history l.disk (g.D.Disk.attached l.disk))
      (g.D.Disk.faults l.fn.disk) (g.D.Disk.faults l.disk);
  others : KeepsTaken (store_slots l.fn.store) (store_slots l.store);
  failed : store_failed l.store ≡ store_failed l.fn.store;
  count : store_failed l.fn.store ≡ false → g.D.Disk.faults l.disk ≡ g.D.Disk.faults l.fn.disk;
  attached : g.D.Disk.attached l.disk ≡ g.D.Disk.attached l.fn.disk;
  honest : g.D.Disk.is_honest l.disk ≡ g.D.Disk.is_honest l.fn.disk;
}
