-- What was taken so far is served, but for a pending piece without a newline.
use Rattle.std.proofs.Common.{◌≡◌, None, ◌≤◌, ◌-◌, IsTrue}
use Rattle.ax_container.specs.Container.{Container}
use Rattle.ax_engine.specs.Engine.{HoldsOver, Works}
use Rattle.ax_engine.specs.Course.{standing_of}
use Rattle.ax_lines.specs.ScriptLines.{IsOneLine}
use Rattle.ax_script.specs.Script.{most_input}
use Rattle.ax_script.specs.Progress.{Progress}
use Rattle.ax_script.proofs.AnsweredLines.{AnswersSoMany}
use Rattle.ax_script.proofs.Endings.{streams}
use Rattle.ax_script.proofs.script_lines.serve_source.Given as goal

abbrev pub invariant-pieces : goal.invariant-pieces
invariant-pieces g l = record {
  progress : IsTrue (g.D.Disk.is_honest l.fn.disk) → (before : Container)
      → HoldsOver l.fn.engine (g.D.Disk.history l.fn.disk (g.D.Disk.attached l.fn.disk)) before
      → (now : Container) × HoldsOver l.engine (g.D.Disk.history l.disk (g.D.Disk.attached l.disk)) now
      × Progress (IsTrue (g.D.Disk.is_honest l.fn.disk)) before
      (streams (g.S.Source.rest l.fn.source) (g.K.Sink.written l.fn.sink) l.fn.steps)
      (streams (g.S.Source.rest l.source) (g.K.Sink.written l.sink) l.steps)
      (g.D.Disk.history l.fn.disk (g.D.Disk.attached l.fn.disk))
      (g.D.Disk.history l.disk (g.D.Disk.attached l.disk))
      now l.pending.items l.taken;
  answered : AnswersSoMany (g.D.Disk.is_honest l.fn.disk) (standing_of l.fn.engine.documents) (standing_of l.engine.documents)
      (streams (g.S.Source.rest l.fn.source) (g.K.Sink.written l.fn.sink) l.fn.steps)
      (streams (g.S.Source.rest l.source) (g.K.Sink.written l.sink) l.steps) l.pending.items l.taken;
  line : IsOneLine l.pending.items;
  works : Works g.C.PageCache.pages (g.D.Disk.is_honest l.disk) l.engine
      (g.D.Disk.history l.disk (g.D.Disk.attached l.disk));
  unfaulted : l.engine.fault ≡ None;
  within : l.taken ≤ most_input;
  uncounted : g.D.Disk.faults l.disk ≡ g.D.Disk.faults l.fn.disk;
  source_faults : g.S.Source.faults l.fn.source ≤ g.S.Source.faults l.source;
  sink_faults : g.K.Sink.faults l.fn.sink ≤ g.K.Sink.faults l.sink;
  steps : l.fn.steps ≤ l.steps;
  attached : g.D.Disk.attached l.disk ≡ g.D.Disk.attached l.fn.disk;
  honest : g.D.Disk.is_honest l.disk ≡ g.D.Disk.is_honest l.fn.disk;
}

abbrev pub decreases-pieces : goal.decreases-pieces
decreases-pieces g l = most_input - l.taken
