-- The answer of the documents is that of the engine, and was written.
use Rattle.std.proofs.Common.{Err}
use Rattle.std.specs.Prelude.{IsTrue}
use Rattle.ax_lines.specs.declared.line.Line.TheVariants as line
use Rattle.ax_engine.specs.declared.engine.Engine.{Engine}
use Rattle.ax_engine.proofs.Applying.{applies_told}
use Rattle.ax_engine.proofs.ReadingInto.{kept_written}
use Rattle.ax_engine.proofs.engine.Engine.read_into.Goals as goal

pub returns-in-Some-clause-may_reply : goal.returns-in-Some-clause-may_reply
returns-in-Some-clause-may_reply g c =
    (Err c.in-Some.fault, tt, kept_written c.args.self.now.fault c.in-Some.fault _ c.in-Some.is c.requires.works.no_sink)

pub returns-in-Some-clause-course : goal.returns-in-Some-clause-course
returns-in-Some-clause-course g c =
    (Err c.in-Some.fault, tt, kept_written c.args.self.now.fault c.in-Some.fault _ c.in-Some.is c.requires.works.no_sink)

pub returns-clause-applies : goal.returns-clause-applies
returns-clause-applies g c = λ honest before over.
    let engine : Engine g.row.C.Denot = record {
      documents = c.read-answered.new.documents;
      alloc = c.args.self.now.alloc;
      fault = c.kept_fault-self.result;
    } in (
      c.read-answered.result,
      applies_told (IsTrue (g.D.Disk.is_honest c.args.disk.now)) before (line.Read c.args.id.now) c.read-answered.result engine
          (g.D.Disk.history c.args.disk.now (g.D.Disk.attached c.args.disk.now))
          (g.D.Disk.history c.read-answered.new.disk (g.D.Disk.attached c.read-answered.new.disk))
          c.kept_fault-self.ensures.none (c.read-answered.ensures.tells honest before over.holds.documents)
          (c.read-answered.ensures.readable honest over.readable),
      c.write_answered.ensures.written,
    )
