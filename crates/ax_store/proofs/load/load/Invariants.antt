use Rattle.std.proofs.Common.{◌≡◌, ℕ, ◌-◌, ◌≤◌, List}
use Rattle.std.specs.Prelude.{IsTrue}
use Rattle.ax_disk.specs.model.Calls.{Idles}
use Rattle.ax_log.specs.Log.{log_end}
use Rattle.ax_log.specs.Agreement.{Agrees}
use Rattle.ax_store.specs.Loading.{IsLoadedTo}
use Rattle.ax_store.specs.Window.{Shows}
use Rattle.ax_store.proofs.load.load.Given as goal

abbrev pub invariant-loop-at : goal.invariant-loop-at
invariant-loop-at g l = record {
  loaded : IsTrue (g.D.Disk.is_honest l.fn.disk) → (frames : List (List ℕ))
      → Agrees l.log frames (g.D.Disk.history l.fn.disk (g.D.Disk.attached l.fn.disk)) → IsLoadedTo frames l.at l.pages;
  shows : IsTrue (g.D.Disk.is_honest l.fn.disk) → (frames : List (List ℕ))
      → Agrees l.log frames (g.D.Disk.history l.fn.disk (g.D.Disk.attached l.fn.disk)) → Shows l.window frames;
  agrees : IsTrue (g.D.Disk.is_honest l.fn.disk) → (frames : List (List ℕ))
      → Agrees l.log frames (g.D.Disk.history l.fn.disk (g.D.Disk.attached l.fn.disk))
      → Agrees l.log frames (g.D.Disk.history l.disk (g.D.Disk.attached l.disk));
  idles : IsTrue (g.D.Disk.is_honest l.fn.disk)
      → Idles (g.D.Disk.history l.fn.disk (g.D.Disk.attached l.fn.disk)) (g.D.Disk.history l.disk (g.D.Disk.attached l.disk));
  within : l.at ≤ log_end l.log;
  count : g.D.Disk.faults l.disk ≡ g.D.Disk.faults l.fn.disk;
  attached : g.D.Disk.attached l.disk ≡ g.D.Disk.attached l.fn.disk;
  honest : g.D.Disk.is_honest l.disk ≡ g.D.Disk.is_honest l.fn.disk;
}

abbrev pub decreases-loop-at : goal.decreases-loop-at
decreases-loop-at g l = log_end l.log - l.at
