-- What the documents tell of a write, as the answer to its line.
use Rattle.std.proofs.Common.{subst, sym}
use Rattle.std.specs.Prelude.{IfErr, IfOk, IsTrue, OnOk, Result}
use Rattle.ax_documents.specs.Documents.{DocumentsWork}
use Rattle.ax_engine.specs.Damage.{Meets}
use Rattle.ax_engine.specs.Engine.{CountsAnswer, IdlesUnlessDone, Tells, made_of}
use Rattle.ax_engine.specs.Judging.{Judges}
use Rattle.ax_engine.specs.PolicyNow.{policy_now}
use Rattle.ax_engine.specs.Replies.{MayReply, write_answer}
use Rattle.ax_store.specs.Store.{store_contents}
use Rattle.ax_engine.specs.declared.engine.Fault.{Fault}
use Rattle.ax_engine.specs.declared.reply.Reply.{Reply}
use Rattle.ax_engine.proofs.Applying.{counted_written, idle_written, judges_written, may_write, met_written, tells_written, works_written, write_is}
use Rattle.ax_engine.specs.Batched.{AnswersSmall}
use Rattle.ax_engine.proofs.Batching.{small_written}
use Rattle.ax_engine.proofs.Courses.{done_written, with_course}
use Rattle.ax_engine.specs.Course.{Course, standing_of}
use Rattle.ax_engine.proofs.engine.write.Goals as goal

pub returns-clause-tells : goal.returns-clause-tells
returns-clause-tells g c = λ honest before holds.
    let P : Result Reply Fault → Type 0 = λ answer. Tells (IsTrue (g.D.Disk.is_honest c.args.disk.now)) before
    c.args.line.now answer c.make-made.new.documents
    (g.D.Disk.history c.args.disk.now (g.D.Disk.attached c.args.disk.now))
    (g.D.Disk.history c.make-made.new.disk (g.D.Disk.attached c.make-made.new.disk)) in
    subst P (sym c.answer_of_write.ensures)
    (tells_written _ before c.args.line.now (made_of c.args.line.now before)
    (write_is c.args.line.now before c.requires.writes c.requires.asked) c.make-made.new.documents _ _
    c.make-made.result (c.make-made.ensures.tells honest before holds))

pub returns-clause-may_reply : goal.returns-clause-may_reply
returns-clause-may_reply g c =
    let P : Result Reply Fault → Type 0 = λ answer. IfOk answer (λ reply. MayReply (policy_now c.args.documents.now.table) c.args.line.now reply) in
    subst P (sym c.answer_of_write.ensures)
    (may_write (policy_now c.args.documents.now.table) c.args.line.now c.make-made.result c.requires.writes c.make-made.ensures.only)

pub returns-clause-lists : goal.returns-clause-lists
returns-clause-lists g c = λ honest.
    let P : Result Reply Fault → Type 0 = λ answer. IdlesUnlessDone answer
    (g.D.Disk.history c.args.disk.now (g.D.Disk.attached c.args.disk.now))
    (g.D.Disk.history c.make-made.new.disk (g.D.Disk.attached c.make-made.new.disk)) in
    subst P (sym c.answer_of_write.ensures) (idle_written c.make-made.result _ _ (c.make-made.ensures.leaves.idle honest))

pub returns-clause-met : goal.returns-clause-met
returns-clause-met g c = λ honest.
    let P : Result Reply Fault → Type 0 = λ answer. IfErr answer (λ why. Meets why
    (g.D.Disk.history c.make-made.new.disk (g.D.Disk.attached c.make-made.new.disk)).reads) in
    subst P (sym c.answer_of_write.ensures) (met_written c.make-made.result _ (c.make-made.ensures.damage honest))

pub returns-clause-works : goal.returns-clause-works
returns-clause-works g c =
    let W = DocumentsWork g.C.PageCache.pages (g.D.Disk.is_honest c.args.disk.now) c.make-made.new.documents
    (g.D.Disk.history c.make-made.new.disk (g.D.Disk.attached c.make-made.new.disk)) in
    let P : Result Reply Fault → Type 0 = λ answer. OnOk answer W in
    subst P (sym c.answer_of_write.ensures)
    (works_written g.C.PageCache.pages _ c.make-made.new.documents _ c.make-made.result c.make-made.ensures.works)

pub returns-clause-readable : goal.returns-clause-readable
returns-clause-readable g c = λ honest before holds rests.
    c.make-made.ensures.leaves.readable honest c.requires.works.unfailed holds.contents.pairs.set holds.contents.pairs.is rests

pub returns-clause-counted : goal.returns-clause-counted
returns-clause-counted g c =
    let P : Result Reply Fault → Type 0 = λ answer. CountsAnswer answer (g.D.Disk.faults c.args.disk.now)
    (g.D.Disk.faults c.make-made.new.disk) in
    subst P (sym c.answer_of_write.ensures)
    (counted_written c.make-made.result _ _ (c.make-made.ensures.leaves.cause c.requires.works.unfailed))

pub returns-clause-never_falls : goal.returns-clause-never_falls
returns-clause-never_falls g c = c.make-made.ensures.leaves.never_falls

pub returns-clause-judged : goal.returns-clause-judged
returns-clause-judged g c = λ honest.
    let P : Result Reply Fault → Type 0 = λ answer. IfOk answer
    (λ reply. Judges c.args.line.now c.args.documents.now.ids (store_contents c.args.documents.now.store) reply) in
    subst P (sym c.answer_of_write.ensures)
    (judges_written c.args.line.now c.make-made.result c.args.documents.now.ids (store_contents c.args.documents.now.store) c.requires.writes
    (c.make-made.ensures.met honest))

pub returns-clause-small : goal.returns-clause-small
returns-clause-small g c =
    let P : Result Reply Fault → Type 0 = λ answer. AnswersSmall c.args.line.now answer (g.D.Disk.is_honest c.args.disk.now)
    c.args.documents.now.table c.args.documents.now.ids
    (store_contents c.args.documents.now.store) (store_contents c.make-made.new.documents.store) in
    subst P (sym c.answer_of_write.ensures)
    (small_written c.args.line.now c.make-made.result _ c.args.documents.now.table c.args.documents.now.ids _ _ c.make-made.ensures.small)

pub returns-clause-course : goal.returns-clause-course
returns-clause-course g c =
    let honest = g.D.Disk.is_honest c.args.disk.now in
    let old = standing_of c.args.documents.now in
    let new = standing_of c.make-made.new.documents in
    let P : Result Reply Fault → Type 0 = λ answer. IfOk answer (λ reply. Course honest c.args.line.now reply old new) in
    subst P (sym c.answer_of_write.ensures)
    (with_course honest c.args.line.now (write_answer c.make-made.result) old new c.requires.works.table c.make-made.ensures.policies
    (may_write (policy_now c.args.documents.now.table) c.args.line.now c.make-made.result c.requires.writes c.make-made.ensures.only)
    (done_written honest c.args.line.now c.make-made.result old new c.requires.writes c.make-made.ensures.met c.make-made.ensures.learns
    c.make-made.ensures.small c.make-made.ensures.leaves.kept))
