use Rattle.std.proofs.Common.{◌≡◌, ◌≤◌, false, List, length}
use Rattle.std.specs.Prelude.{IsTrue}
use Rattle.ax_pair.specs.declared.pair.Pair.{Pair}
use Rattle.ax_pair.specs.Order.{Rise}
use Rattle.ax_pairs.specs.PagePairs.{AreOfBase}
use Rattle.ax_index.proofs.GrammarLemmas.{AreDeltasUpTo}
use Rattle.ax_pages.specs.Contents.{term_page, term_parts}
use Rattle.ax_store.specs.Store.{store_contents, store_failed, store_slots}
use Rattle.ax_index.specs.Reading.{first_delta}
use Rattle.ax_index.specs.Reads.{Reads}
use Rattle.ax_index.proofs.FoldedPairs.{IsFolded}
use Rattle.ax_store.specs.Slots.{AreOthersSame}
use Rattle.ax_index.proofs.folding.folded.Given as goal

abbrev pub invariant-loop-i : goal.invariant-loop-i
invariant-loop-i g l = record {
  folded : IsTrue (g.D.Disk.is_honest l.fn.disk) → IsFolded l.wanted (term_page l.page (store_contents l.fn.store).terms) l.i l.pairs;
  rise : Rise l.pairs;
  base : IsTrue (g.D.Disk.is_honest l.fn.disk) → (base : List Pair) × AreOfBase (term_page l.page (store_contents l.fn.store).terms).base base;
  deltas : IsTrue (g.D.Disk.is_honest l.fn.disk) → AreDeltasUpTo (term_page l.page (store_contents l.fn.store).terms) l.i;
  from : first_delta (term_page l.page (store_contents l.fn.store).terms) ≤ l.i;
  within : l.i ≤ length (term_parts (term_page l.page (store_contents l.fn.store).terms));
  reads : Reads g.C.PageCache.pages (g.D.Disk.is_honest l.fn.disk) l.fn.store l.store
      (g.D.Disk.history l.fn.disk (g.D.Disk.attached l.fn.disk)) (g.D.Disk.history l.disk (g.D.Disk.attached l.disk))
      (g.D.Disk.faults l.fn.disk) (g.D.Disk.faults l.disk);
  failed : store_failed l.store ≡ store_failed l.fn.store;
  count : store_failed l.fn.store ≡ false → g.D.Disk.faults l.disk ≡ g.D.Disk.faults l.fn.disk;
  slot : l.slot ≡ l.fn.slot;
  others : AreOthersSame l.fn.slot.number (store_slots l.fn.store) (store_slots l.store);
  attached : g.D.Disk.attached l.disk ≡ g.D.Disk.attached l.fn.disk;
  honest : g.D.Disk.is_honest l.disk ≡ g.D.Disk.is_honest l.fn.disk;
}
