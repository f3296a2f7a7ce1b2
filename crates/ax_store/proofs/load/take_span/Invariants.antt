use Rattle.std.proofs.Common.{◌≡◌, ℕ, ◌+◌, ◌-◌, ◌≤◌, List, take, drop}
use Rattle.std.specs.Prelude.{IsTrue}
use Rattle.ax_disk.specs.model.Calls.{Idles}
use Rattle.ax_pages.specs.Area.{frames_bytes}
use Rattle.ax_log.specs.Agreement.{Agrees}
use Rattle.ax_store.specs.Taking.{IsTakenTo}
use Rattle.ax_store.specs.Window.{Shows}
use Rattle.ax_store.proofs.load.take_span.Given as goal

abbrev pub invariant-loop-here : goal.invariant-loop-here
invariant-loop-here g l = record {
  taken : IsTrue (g.D.Disk.is_honest l.fn.disk) → (frames : List (List ℕ))
      → Agrees l.log frames (g.D.Disk.history l.fn.disk (g.D.Disk.attached l.fn.disk)) → Shows l.fn.window frames
      → IsTakenTo (take l.fn.len (drop l.fn.at (frames_bytes frames))) l.fn.at l.fn.pages l.pages
      (take (l.fn.at + l.fn.len - l.here) (drop l.here (frames_bytes frames)));
  shows : IsTrue (g.D.Disk.is_honest l.fn.disk) → (frames : List (List ℕ))
      → Agrees l.log frames (g.D.Disk.history l.fn.disk (g.D.Disk.attached l.fn.disk)) → Shows l.fn.window frames → Shows l.window frames;
  agrees : IsTrue (g.D.Disk.is_honest l.fn.disk) → (frames : List (List ℕ))
      → Agrees l.log frames (g.D.Disk.history l.fn.disk (g.D.Disk.attached l.fn.disk))
      → Agrees l.log frames (g.D.Disk.history l.disk (g.D.Disk.attached l.disk));
  idles : IsTrue (g.D.Disk.is_honest l.fn.disk)
      → Idles (g.D.Disk.history l.fn.disk (g.D.Disk.attached l.fn.disk)) (g.D.Disk.history l.disk (g.D.Disk.attached l.disk));
  before : l.fn.at ≤ l.here;
  within : l.here ≤ l.fn.at + l.fn.len;
  count : g.D.Disk.faults l.disk ≡ g.D.Disk.faults l.fn.disk;
  attached : g.D.Disk.attached l.disk ≡ g.D.Disk.attached l.fn.disk;
  honest : g.D.Disk.is_honest l.disk ≡ g.D.Disk.is_honest l.fn.disk;
}

abbrev pub decreases-loop-here : goal.decreases-loop-here
decreases-loop-here g l = l.fn.at + l.fn.len - l.here
