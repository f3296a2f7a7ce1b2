-- No memory was left for the buffer.
use Rattle.ax_engine.proofs.Applying.{rests_over}
use Rattle.ax_engine.specs.Course.{standing_of}
use Rattle.ax_script.proofs.AnsweredLines.{memory_answered}
use Rattle.ax_script.proofs.Endings.{ends_without_memory}
use Rattle.ax_script.proofs.script_run.serve_cached.Goals as goal

pub returns-in_default-clause-script : goal.returns-in_default-clause-script
returns-in_default-clause-script g c = λ honest before holds.
    ends_without_memory _ before _ _ (rests_over g.C.PageCache.pages _ c.args.engine.now _ before c.requires.works holds)

pub returns-in_default-clause-answered : goal.returns-in_default-clause-answered
returns-in_default-clause-answered g c = memory_answered (g.D.Disk.is_honest c.args.disk.now) (standing_of c.args.engine.now.documents)
    (g.D.Disk.history c.args.disk.now (g.D.Disk.attached c.args.disk.now)) _ _ _ _
