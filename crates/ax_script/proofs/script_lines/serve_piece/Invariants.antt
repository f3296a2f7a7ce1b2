-- The lines in a prefix of the piece are served, and the rest is still to do.
use Rattle.std.proofs.Common.{◌≡◌, None, ◌≤◌, length, IsTrue}
use Rattle.ax_container.specs.Container.{Container}
use Rattle.ax_lines.specs.ScriptLines.{IsOneLine}
use Rattle.ax_engine.specs.Engine.{HoldsOver, Works}
use Rattle.ax_engine.specs.Course.{standing_of}
use Rattle.ax_engine.specs.PolicyNow.{policy_now}
use Rattle.ax_script.specs.Progress.{outlets}
use Rattle.ax_script.proofs.AnsweredLines.{AnsweredIn}
use Rattle.ax_script.proofs.ServedLines.{InPiece}
use Rattle.ax_script.proofs.script_lines.serve_piece.Given as goal

abbrev pub invariant-lines : goal.invariant-lines
invariant-lines g l = record {
  part : IsTrue (g.D.Disk.is_honest l.fn.disk) → (before : Container) → HoldsOver l.fn.engine (g.D.Disk.history l.fn.disk (g.D.Disk.attached l.fn.disk)) before
      → (now : Container) × HoldsOver l.engine (g.D.Disk.history l.disk (g.D.Disk.attached l.disk)) now
      × InPiece (IsTrue (g.D.Disk.is_honest l.fn.disk)) before now l.fn.pending.items l.pending.items
      l.piece l.rest
      (outlets (g.K.Sink.written l.fn.sink)
      (g.D.Disk.history l.fn.disk (g.D.Disk.attached l.fn.disk)) l.fn.steps)
      (outlets (g.K.Sink.written l.sink) (g.D.Disk.history l.disk
      (g.D.Disk.attached l.disk)) l.steps);
  answered : AnsweredIn (g.D.Disk.is_honest l.fn.disk) l.fn.pending.items l.pending.items l.piece l.rest
      (standing_of l.fn.engine.documents) (standing_of l.engine.documents)
      (g.K.Sink.written l.fn.sink) (g.K.Sink.written l.sink);
  policy : policy_now l.engine.documents.table ≡ policy_now l.fn.engine.documents.table;
  line : IsOneLine l.pending.items;
  works : Works g.C.PageCache.pages (g.D.Disk.is_honest l.disk) l.engine
      (g.D.Disk.history l.disk (g.D.Disk.attached l.disk));
  unfaulted : l.engine.fault ≡ None;
  uncounted : g.D.Disk.faults l.disk ≡ g.D.Disk.faults l.fn.disk;
  sink_faults : g.K.Sink.faults l.fn.sink ≤ g.K.Sink.faults l.sink;
  steps : l.fn.steps ≤ l.steps;
  attached : g.D.Disk.attached l.disk ≡ g.D.Disk.attached l.fn.disk;
  honest : g.D.Disk.is_honest l.disk ≡ g.D.Disk.is_honest l.fn.disk;
}

abbrev pub decreases-lines : goal.decreases-lines
decreases-lines g l = length l.rest
