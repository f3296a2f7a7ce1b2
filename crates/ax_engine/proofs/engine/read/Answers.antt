-- The document of an id, as the answer to the line.
use Rattle.std.proofs.Common.{ap, subst, sym, ◌∙◌}
use Rattle.std.specs.Prelude.{IfErr, IfOk, IsTrue, OnOk, Result}
use Rattle.ax_container.specs.Container.{contains}
use Rattle.ax_disk.specs.laws.StaysLaws.{idles_stay}
use Rattle.ax_image.specs.Readable.{SaysReadable}
use Rattle.ax_lines.specs.declared.line.Line.TheVariants as line
use Rattle.ax_documents.specs.Documents.{DocumentsWork}
use Rattle.ax_engine.specs.Damage.{Meets}
use Rattle.ax_engine.specs.Engine.{CountsAnswer, Tells}
use Rattle.ax_engine.specs.Judging.{Judges}
use Rattle.ax_engine.specs.Replies.{FitsRead, look_up_answer}
use Rattle.ax_store.specs.Store.{store_contents}
use Rattle.ax_engine.specs.declared.engine.Fault.{Fault}
use Rattle.ax_engine.specs.declared.reply.Reply.{Reply}
use Rattle.ax_engine.proofs.Applying.{counted_looked, judges_looked, may_look, met_looked, steps_of_held, tells_looked, works_looked}
use Rattle.ax_engine.proofs.Courses.{done_looked, with_course}
use Rattle.ax_engine.proofs.Holding.{idled}
use Rattle.ax_engine.proofs.PolicyHeld.{unchanged}
use Rattle.ax_engine.specs.Course.{Course, standing_of}
use Rattle.ax_index.proofs.Unmoved.{same_contents}
use Rattle.ax_engine.proofs.engine.read.Goals as goal

pub returns-clause-tells : goal.returns-clause-tells
returns-clause-tells g c = λ honest before holds.
    let P : Result Reply Fault → Type 0 = λ answer. Tells (IsTrue (g.D.Disk.is_honest c.args.disk.now)) before
    (line.Read c.args.id.now) answer c.read-found.new.self
    (g.D.Disk.history c.args.disk.now (g.D.Disk.attached c.args.disk.now))
    (g.D.Disk.history c.read-found.new.disk (g.D.Disk.attached c.read-found.new.disk)) in
    subst P (sym c.answer_of_look_up.ensures)
    (tells_looked _ c.args.documents.now.store c.read-found.new.self _ _ before c.args.id.now c.as_bytes-id.result.now
    c.read-found.result (c.as_bytes-id.ensures.value ∙ c.as_str.ensures.text) holds.contents
    (c.read-found.ensures.holds honest before holds)
    (idled g.C.PageCache.pages _ c.args.documents.now _ before c.requires.works holds _ (c.read-found.ensures.leaves.reads.lists honest) honest)
    (c.read-found.ensures.leaves.told honest) (c.read-found.ensures.text honest before holds))

pub returns-clause-may_reply : goal.returns-clause-may_reply
returns-clause-may_reply g c =
    let P : Result Reply Fault → Type 0 = λ answer. IfOk answer FitsRead in
    subst P (sym c.answer_of_look_up.ensures) (may_look c.read-found.result)

pub returns-clause-lists : goal.returns-clause-lists
returns-clause-lists g c = λ honest. c.read-found.ensures.leaves.reads.lists honest

pub returns-clause-met : goal.returns-clause-met
returns-clause-met g c = λ honest.
    let P : Result Reply Fault → Type 0 = λ answer. IfErr answer (λ why. Meets why
    (g.D.Disk.history c.read-found.new.disk (g.D.Disk.attached c.read-found.new.disk)).reads) in
    subst P (sym c.answer_of_look_up.ensures) (met_looked c.read-found.result _ (c.read-found.ensures.damage honest))

pub returns-clause-works : goal.returns-clause-works
returns-clause-works g c =
    let W = DocumentsWork g.C.PageCache.pages (g.D.Disk.is_honest c.args.disk.now) c.read-found.new.self
    (g.D.Disk.history c.read-found.new.disk (g.D.Disk.attached c.read-found.new.disk)) in
    let P : Result Reply Fault → Type 0 = λ answer. OnOk answer W in
    subst P (sym c.answer_of_look_up.ensures)
    (works_looked g.C.PageCache.pages _ c.read-found.new.self _ c.read-found.result c.read-found.ensures.works)

pub returns-clause-readable : goal.returns-clause-readable
returns-clause-readable g c = λ honest rests. idles_stay _ _ SaysReadable rests (c.read-found.ensures.leaves.reads.lists honest)

pub returns-clause-counted : goal.returns-clause-counted
returns-clause-counted g c =
    let P : Result Reply Fault → Type 0 = λ answer. CountsAnswer answer (g.D.Disk.faults c.args.disk.now)
    (g.D.Disk.faults c.read-found.new.disk) in
    subst P (sym c.answer_of_look_up.ensures)
    (counted_looked c.read-found.result _ _ (c.read-found.ensures.leaves.cause c.requires.works.unfailed))

pub returns-clause-never_falls : goal.returns-clause-never_falls
returns-clause-never_falls g c = c.read-found.ensures.leaves.reads.never_falls

pub returns-clause-bound : goal.returns-clause-bound
returns-clause-bound g c = λ honest before holds.
    let same = c.as_bytes-id.ensures.value ∙ c.as_str.ensures.text in
    steps_of_held c.args.id.now before _ _ c.read-found.ensures.one
    (λ absent. c.read-found.ensures.none honest before holds (ap (λ i. contains i before) same ∙ absent))

pub returns-clause-judged : goal.returns-clause-judged
returns-clause-judged g c = λ honest.
    let P : Result Reply Fault → Type 0 = λ answer. IfOk answer
    (λ reply. Judges (line.Read c.args.id.now) c.args.documents.now.ids (store_contents c.args.documents.now.store) reply) in
    subst P (sym c.answer_of_look_up.ensures)
    (judges_looked c.args.id.now c.as_bytes-id.result.now c.read-found.result c.args.documents.now.ids
    (store_contents c.args.documents.now.store) (c.as_bytes-id.ensures.value ∙ c.as_str.ensures.text) (c.read-found.ensures.met honest))

pub returns-clause-course : goal.returns-clause-course
returns-clause-course g c =
    let honest = g.D.Disk.is_honest c.args.disk.now in
    let old = standing_of c.args.documents.now in
    let new = standing_of c.read-found.new.self in
    let P : Result Reply Fault → Type 0 = λ answer. IfOk answer (λ reply. Course honest (line.Read c.args.id.now) reply old new) in
    subst P (sym c.answer_of_look_up.ensures)
    (with_course honest (line.Read c.args.id.now) (look_up_answer c.read-found.result) old new c.requires.works.table
    (unchanged _ _ c.read-found.ensures.table) (may_look c.read-found.result)
    (done_looked honest c.args.id.now c.as_bytes-id.result.now c.read-found.result old new
    (c.as_bytes-id.ensures.value ∙ c.as_str.ensures.text) c.read-found.ensures.met c.read-found.ensures.learns
    (same_contents c.args.documents.now.store c.read-found.new.self.store c.read-found.ensures.leaves.reads.same.same)))
