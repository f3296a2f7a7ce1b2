use Rattle.std.proofs.Common.{◌≡◌, ◌-◌, ◌≤◌, IsTrue}
use Rattle.ax_disk.specs.model.Image.{list_of}
use Rattle.ax_disk.specs.model.Calls.{Idles}
use Rattle.ax_log.specs.Walk.{Shows, LeadsTo}
use Rattle.ax_log.proofs.walk.frames_end.Given as goal

abbrev pub invariant-loop-at : goal.invariant-loop-at
invariant-loop-at g l =
    let history = g.D.Disk.history in
    let attached = g.D.Disk.attached in
    let honest = g.D.Disk.is_honest in
    let first = history l.fn.disk (attached l.fn.disk) in
    record {
      within : l.at ≤ l.len;
      led : IsTrue (honest l.fn.disk) → LeadsTo (list_of l.area first.reads) l.at;
      shows : IsTrue (honest l.fn.disk) → Shows l.window (list_of l.area first.reads);
      idle : IsTrue (honest l.fn.disk) → Idles first (history l.disk (attached l.disk));
      same_store : attached l.disk ≡ attached l.fn.disk;
      same_honesty : honest l.disk ≡ honest l.fn.disk;
      faults : g.D.Disk.faults l.disk ≡ g.D.Disk.faults l.fn.disk;
    }

abbrev pub decreases-loop-at : goal.decreases-loop-at
decreases-loop-at g l = l.len - l.at
