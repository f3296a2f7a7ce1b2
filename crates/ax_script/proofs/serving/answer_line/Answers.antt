-- A line that is refused, and one for which memory ran out, change nothing.
use Rattle.std.proofs.Common.{Ok, Result, refl, subst, sym}
use Rattle.std.specs.Prelude.{IsTrue}
use Rattle.ax_lines.specs.declared.line.Line.{Line}
use Rattle.ax_lines.specs.declared.line.LineFault.{LineFault}
use Rattle.ax_lines.specs.declared.refusal.Refusal.{Refusal}
use Rattle.ax_lines.specs.Answers.{Answers}
use Rattle.ax_lines.specs.Lines.{line_of}
use Rattle.ax_engine.proofs.Applying.{still_over}
use Rattle.ax_engine.specs.Course.{standing_of}
use Rattle.ax_engine.specs.Engine.{LeavesLists}
use Rattle.ax_engine.specs.declared.engine.Fault.{Fault}
use Rattle.ax_engine.specs.declared.reply.Reply.{Reply}
use Rattle.ax_engine.specs.declared.reply.Reply.TheVariants as given
use Rattle.ax_script.specs.Replies.{IsAnswer, TellsLine}
use Rattle.ax_script.proofs.AnsweredLines.{damaged_idles, unread_is}
use Rattle.ax_script.proofs.Replying.{tells_applied, tells_unread}
use Rattle.ax_script.proofs.serving.answer_line.Goals as goal

pub returns-in-Ok-clause-tells : goal.returns-in-Ok-clause-tells
returns-in-Ok-clause-tells g c = λ honest before holds.
    let A : Result Line LineFault → Type 0 = λ asked. Answers asked (line_of c.args.line.now) in
    tells_applied _ before c.args.line.now c.in-Ok.asked c.apply.new.self _ _ c.apply.result
    (subst A c.in-Ok.is c.requires.answers) (c.apply.ensures.applies honest before holds)

pub returns-in-Err-clause-tells : goal.returns-in-Err-clause-tells
returns-in-Err-clause-tells g c = λ honest before holds.
    let A : Result Line LineFault → Type 0 = λ asked. Answers asked (line_of c.args.line.now) in
    let here = g.D.Disk.history c.args.disk.now (g.D.Disk.attached c.args.disk.now) in
    let P : Refusal → Type 0 = λ why. TellsLine (IsTrue (g.D.Disk.is_honest c.args.disk.now)) before c.args.line.now
    (Ok (given.Refused why)) c.args.engine.now here here in
    subst P (sym c.refusal_of.ensures)
    (tells_unread (IsTrue (g.D.Disk.is_honest c.args.disk.now)) before c.args.line.now c.in-Err.fault c.args.engine.now here here
    (subst A c.in-Err.is c.requires.answers) holds
    (still_over g.C.PageCache.pages _ c.args.engine.now _ before before c.requires.works holds))

pub returns-in-Err-clause-answers : goal.returns-in-Err-clause-answers
returns-in-Err-clause-answers g c =
    let honest = g.D.Disk.is_honest c.args.disk.now in
    let here = standing_of c.args.engine.now.documents in
    let P : Refusal → Type 0 = λ why. IsAnswer honest c.args.line.now (given.Refused why) here here in
    subst P (sym c.refusal_of.ensures)
    (unread_is honest c.args.line.now here here c.args.asked c.in-Err.fault c.in-Err.is c.requires.answers c.requires.at_once refl)

pub returns-in-Ok-clause-lists : goal.returns-in-Ok-clause-lists
returns-in-Ok-clause-lists g c = λ honest unfaulted extent at is.
    damaged_idles c.in-Ok.asked extent at _ _
    (subst (λ (r : Result Reply Fault). LeavesLists c.in-Ok.asked r (g.D.Disk.history c.args.disk.now (g.D.Disk.attached c.args.disk.now))
    (g.D.Disk.history c.apply.new.disk (g.D.Disk.attached c.apply.new.disk))) is (c.apply.ensures.lists honest unfaulted))
