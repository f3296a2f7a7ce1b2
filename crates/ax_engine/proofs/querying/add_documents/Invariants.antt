-- The documents up to the number were taken in, each for one step or two.
use Rattle.std.proofs.Common.{◌≡◌, ◌-◌, ◌^◌, ◌*◌, ◌+◌, ◌++◌, ◌≤◌, ℕ, List, [], Some, length}
use Rattle.std.specs.Prelude.{IsTrue}
use Rattle.ax_tree.specs.declared.tree.Tree.{Tree}
use Rattle.ax_mean.specs.declared.query.Query.{Query}
use Rattle.ax_container.specs.Container.{Container}
use Rattle.ax_image.specs.Documents.{ContentsHold}
use Rattle.ax_answer_text.specs.TextAnswers.{Answers, IsTo}
use Rattle.ax_store.specs.Store.{store_contents}
use Rattle.ax_answer_text.specs.Parts.{IsTakenWhole}
use Rattle.ax_engine.specs.Scans.{Scanned}
use Rattle.ax_engine.proofs.Damaging.{AreDocumentsTo}
use Rattle.ax_engine.proofs.InOrder.{above, pairs}
use Rattle.ax_engine.proofs.Stopping.{IsWithinAll}
use Rattle.ax_engine.proofs.Walking.{HasWalkedTo}
use Rattle.ax_engine.proofs.querying.add_documents.Given as goal

abbrev pub decreases-texts : goal.decreases-texts
decreases-texts g l = 2 ^ 32 - l.number

abbrev pub invariant-texts : goal.invariant-texts
invariant-texts g l = record {
  added : IsTrue (g.D.Disk.is_honest l.fn.disk) → (container : Container)
      → ContentsHold (store_contents l.fn.store) container → (query : Query)
      → Answers l.fn.answer query [] → (done : List (ℕ × Tree))
      × (done ++ pairs (above l.number container.entries) ≡ pairs container.entries)
      × Answers l.answer query done;
  asked : (query : Query) → IsTo l.fn.answer query → IsTo l.answer query;
  met : IsTrue (g.D.Disk.is_honest l.fn.disk) → (query : Query) → IsTo l.fn.answer query
      → AreDocumentsTo l.number (IsTakenWhole query) (store_contents l.fn.store);
  walked : IsTrue (g.D.Disk.is_honest l.fn.disk) → (query : Query) → Answers l.fn.answer query []
      → HasWalkedTo l.number (store_contents l.fn.store) query l.answer;
  fetched : (container : Container) → ContentsHold (store_contents l.fn.store) container
      → l.fn.steps + length container.entries ≤ l.steps + length (above l.number container.entries);
  bound : (container : Container) → ContentsHold (store_contents l.fn.store) container
      → l.steps + 2 * length (above l.number container.entries)
      ≤ l.fn.steps + 2 * length container.entries;
  within : IsTrue (g.D.Disk.is_honest l.fn.disk) → (container : Container)
      → ContentsHold (store_contents l.fn.store) container → (query : Query)
      → Answers l.fn.answer query [] → IsWithinAll query container l.number;
  none_wanted : (query : Query) → Answers l.fn.answer query [] → query.limit ≡ Some 0
      → (l.steps ≡ l.fn.steps) × Answers l.answer query [];
  never_falls : l.fn.steps ≤ l.steps;
  scans : Scanned g.C.PageCache.pages (g.D.Disk.is_honest l.fn.disk) l.fn.store l.store l.ahead
      (g.D.Disk.history l.fn.disk (g.D.Disk.attached l.fn.disk)) (g.D.Disk.history l.disk (g.D.Disk.attached l.disk))
      (g.D.Disk.faults l.fn.disk) (g.D.Disk.faults l.disk);
  attached : g.D.Disk.attached l.disk ≡ g.D.Disk.attached l.fn.disk;
  honest : g.D.Disk.is_honest l.disk ≡ g.D.Disk.is_honest l.fn.disk;
}
