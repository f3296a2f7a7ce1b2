-- The documents of the numbers before were taken in, each for one step or two.
use Rattle.std.proofs.Common.{◌≡◌, ◌+◌, ◌*◌, ◌≤◌, ℕ, List, Some, take, []}
use Rattle.std.specs.Prelude.{IsTrue}
use Rattle.ax_answer_text.specs.Parts.{IsTakenWhole}
use Rattle.ax_answer_text.specs.TextAnswers.{Answers, IsTo}
use Rattle.ax_container.specs.Container.{Container}
use Rattle.ax_image.specs.Documents.{ContentsHold}
use Rattle.ax_mean.specs.declared.query.Query.{Query}
use Rattle.ax_skips.specs.Chosen.{fetched}
use Rattle.ax_store.specs.Store.{store_contents}
use Rattle.ax_tree.specs.declared.tree.Tree.{Tree}
use Rattle.ax_engine.specs.Scans.{Scanned}
use Rattle.ax_engine.specs.Walks.{AreTexts}
use Rattle.ax_engine.proofs.ByNumbers.{AreDocumentsOf}
use Rattle.ax_engine.proofs.Stopping.{IsWithinNumbers}
use Rattle.ax_engine.proofs.querying.add_numbered.Given as goal

abbrev pub invariant-loop-number : goal.invariant-loop-number
invariant-loop-number g l = record {
  added : IsTrue (g.D.Disk.is_honest l.fn.disk) → (container : Container)
      → ContentsHold (store_contents l.fn.store) container → (query : Query)
      → Answers l.fn.answer query [] → Answers l.answer query (fetched (take l.number-index l.numbers) container);
  asked : (query : Query) → IsTo l.fn.answer query → IsTo l.answer query;
  met : IsTrue (g.D.Disk.is_honest l.fn.disk) → (query : Query) → IsTo l.fn.answer query
      → AreDocumentsOf (take l.number-index l.numbers) (IsTakenWhole query) (store_contents l.fn.store);
  texts : IsTrue (g.D.Disk.is_honest l.fn.disk) → (query : Query) → Answers l.fn.answer query [] → (entries : List (ℕ × Tree))
      → AreTexts (store_contents l.fn.store) (take l.number-index l.numbers) entries → Answers l.answer query entries;
  fetched : l.fn.steps + l.number-index ≤ l.steps;
  bound : l.steps ≤ l.fn.steps + 2 * l.number-index;
  within : IsTrue (g.D.Disk.is_honest l.fn.disk) → (container : Container)
      → ContentsHold (store_contents l.fn.store) container → (query : Query)
      → Answers l.fn.answer query [] → IsWithinNumbers l.numbers query container l.number-index;
  none_wanted : (query : Query) → Answers l.fn.answer query [] → query.limit ≡ Some 0
      → (l.steps ≡ l.fn.steps) × Answers l.answer query [];
  scans : Scanned g.C.PageCache.pages (g.D.Disk.is_honest l.fn.disk) l.fn.store l.store l.ahead
      (g.D.Disk.history l.fn.disk (g.D.Disk.attached l.fn.disk)) (g.D.Disk.history l.disk (g.D.Disk.attached l.disk))
      (g.D.Disk.faults l.fn.disk) (g.D.Disk.faults l.disk);
  attached : g.D.Disk.attached l.disk ≡ g.D.Disk.attached l.fn.disk;
  honest : g.D.Disk.is_honest l.disk ≡ g.D.Disk.is_honest l.fn.disk;
}
