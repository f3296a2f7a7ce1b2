use Rattle.std.proofs.Common.{◌≡◌, ◌-◌, ◌≤◌, false, List, length, drop, None}
use Rattle.std.specs.Prelude.{IsTrue}
use Rattle.ax_delta.specs.Changes.{TermChange}
use Rattle.ax_delta.specs.Said.{last_said}
use Rattle.ax_pages.specs.Contents.{term_page, term_parts}
use Rattle.ax_pairs.specs.PagePairs.{AreDeltas}
use Rattle.ax_store.specs.Store.{store_contents, store_failed, store_slots}
use Rattle.ax_index.specs.Grammar.{AreDeltasFrom}
use Rattle.ax_index.specs.Reading.{first_delta}
use Rattle.ax_index.specs.Reads.{Reads}
use Rattle.ax_store.specs.Slots.{AreOthersSame}
use Rattle.ax_index.proofs.looking.look_back.Given as goal

abbrev pub invariant-loop-i : goal.invariant-loop-i
invariant-loop-i g l = record {
  quiet : IsTrue (g.D.Disk.is_honest l.fn.disk) → (deltas : List (List TermChange))
      → AreDeltas (term_page l.page (store_contents l.fn.store).terms).deltas deltas
      → last_said l.pair (drop (l.i - first_delta (term_page l.page (store_contents l.fn.store).terms)) deltas) ≡ None;
  met : IsTrue (g.D.Disk.is_honest l.fn.disk) → AreDeltasFrom (term_page l.page (store_contents l.fn.store).terms) l.i;
  from : first_delta (term_page l.page (store_contents l.fn.store).terms) ≤ l.i;
  within : l.i ≤ length (term_parts (term_page l.page (store_contents l.fn.store).terms));
  reads : Reads g.C.PageCache.pages (g.D.Disk.is_honest l.fn.disk) l.fn.store l.store
      (g.D.Disk.history l.fn.disk (g.D.Disk.attached l.fn.disk)) (g.D.Disk.history l.disk (g.D.Disk.attached l.disk))
      (g.D.Disk.faults l.fn.disk) (g.D.Disk.faults l.disk);
  failed : store_failed l.store ≡ store_failed l.fn.store;
  count : store_failed l.fn.store ≡ false → g.D.Disk.faults l.disk ≡ g.D.Disk.faults l.fn.disk;
  slot : l.slot ≡ l.fn.slot;
  others : AreOthersSame l.fn.slot.number (store_slots l.fn.store) (store_slots l.store);
  attached : g.D.Disk.attached l.disk ≡ g.D.Disk.attached l.fn.disk;
  honest : g.D.Disk.is_honest l.disk ≡ g.D.Disk.is_honest l.fn.disk;
}

abbrev pub decreases-loop-i : goal.decreases-loop-i
decreases-loop-i g l = l.i
