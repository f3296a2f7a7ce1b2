-- What reading answered, as the answer to the line.
use Rattle.std.proofs.Common.{◌+◌, ◌*◌, ◌≤◌, List, Bool, arith, refl, subst, sym}
use Rattle.std.specs.Prelude.{IfErr, IfOk, IsTrue, OnOk, Result, count_by, not}
use Rattle.ax_area.specs.Image.{Says}
use Rattle.ax_disk.specs.laws.StaysLaws.{idles_rest, idles_stay}
use Rattle.ax_documents.proofs.Meeting.{look_met}
use Rattle.ax_documents.specs.Documents.{DocumentsWork}
use Rattle.ax_engine.specs.Course.{Course, standing_of}
use Rattle.ax_engine.specs.Damage.{Meets, PassesOverNone}
use Rattle.ax_engine.specs.Engine.{CountsAnswer, Tells}
use Rattle.ax_engine.specs.PolicyNow.{policy_now}
use Rattle.ax_engine.specs.Replies.{IsReply, MayReply, read_answer}
use Rattle.ax_engine.specs.declared.engine.Fault.{Fault}
use Rattle.ax_engine.specs.declared.reply.Reply.{Reply}
use Rattle.ax_engine.proofs.Applying.{counted_read, may_read, met_read, passes_read, tells_read, works_read}
use Rattle.ax_engine.proofs.Courses.{done_queried, with_course}
use Rattle.ax_engine.proofs.PolicyHeld.{all_used, just_policies, policy_held, same_policies}
use Rattle.ax_engine.proofs.engine.query.Goals as goal
use Rattle.ax_grammar.specs.Query.{query_in}
use Rattle.ax_image.specs.Readable.{SaysReadable, newest}
use Rattle.ax_index.proofs.Unmoved.{same_contents}
use Rattle.ax_lines.specs.declared.line.Line.TheVariants as line
use Rattle.ax_machine.specs.Needs.{query_need}
use Rattle.ax_machine.specs.Querying.{rows_reply, rows_under}
use Rattle.ax_store.proofs.StoreLemmas.{agrees_says}
use Rattle.ax_store.specs.Store.{store_contents}

pub reply_to_query-read-requires : goal.reply_to_query-read-requires
reply_to_query-read-requires g c = record {
  works = c.requires.works.unfailed;
  free = subst (λ (taken : List Bool). 2 ≤ count_by not taken) (sym c.requires.works.free) (omega arith);
  agrees = λ honest still. c.requires.works.agrees honest;
}

pub returns-clause-tells : goal.returns-clause-tells
returns-clause-tells g c = λ honest readable before holds.
    let P : Result Reply Fault → Type 0 = λ answer. Tells (IsTrue (g.D.Disk.is_honest c.args.disk.now)) before
    (line.Query c.args.body.now) answer (record c.args.documents.now { store = c.reply_to_query-read.new.store })
    (g.D.Disk.history c.args.disk.now (g.D.Disk.attached c.args.disk.now))
    (g.D.Disk.history c.reply_to_query-read.new.disk (g.D.Disk.attached c.reply_to_query-read.new.disk)) in
    subst P (sym c.answer_of_read.ensures)
    (tells_read g.C.PageCache.pages _ c.args.documents.now _ _ _ _ _ c.requires.works before c.args.body.now holds
    c.reply_to_query-read.result c.reply_to_query-read.ensures.looks
    (subst (λ policy. IfOk c.reply_to_query-read.result (λ reply. IsReply reply
    (rows_reply (rows_under policy (query_in c.args.body.now.params c.args.body.now.text) before))))
    (policy_held g.C.PageCache.pages _ c.args.documents.now _ before c.requires.works holds honest)
    (c.reply_to_query-read.ensures.reply honest before holds.contents
    (all_used g.C.PageCache.pages _ c.args.documents.now _ before c.requires.works holds honest))) honest)

pub returns-clause-may_reply : goal.returns-clause-may_reply
returns-clause-may_reply g c =
    let P : Result Reply Fault → Type 0 = λ answer. IfOk answer (λ reply.
    MayReply (policy_now c.args.documents.now.table) (line.Query c.args.body.now) reply) in
    subst P (sym c.answer_of_read.ensures)
    (may_read (policy_now c.args.documents.now.table) c.args.body.now c.reply_to_query-read.result c.reply_to_query-read.ensures.fits)

pub returns-clause-met : goal.returns-clause-met
returns-clause-met g c = λ honest.
    let P : Result Reply Fault → Type 0 = λ answer. IfErr answer (λ why. Meets why
    (g.D.Disk.history c.reply_to_query-read.new.disk (g.D.Disk.attached c.reply_to_query-read.new.disk)).reads) in
    subst P (sym c.answer_of_read.ensures)
    (met_read c.reply_to_query-read.result _
    (look_met g.C.PageCache.pages _ _ _ _ _ _ _ honest (c.requires.works.agrees honest)
    (g.met.D.Disk.reads_may_stay c.args.disk.now (g.D.Disk.attached c.args.disk.now) honest)
    c.reply_to_query-read.result c.reply_to_query-read.ensures.looks))

pub returns-clause-passes_over_none : goal.returns-clause-passes_over_none
returns-clause-passes_over_none g c = λ honest.
    let contents = store_contents c.args.documents.now.store in
    let of = agrees_says g.C.PageCache.pages c.args.documents.now.store _ (c.requires.works.agrees honest) in
    let P : Result Reply Fault → Type 0 = λ answer. IfOk answer (λ reply.
    PassesOverNone c.args.documents.now.table (line.Query c.args.body.now) reply
    (g.D.Disk.history c.reply_to_query-read.new.disk (g.D.Disk.attached c.reply_to_query-read.new.disk)).reads) in
    subst P (sym c.answer_of_read.ensures)
    (passes_read c.args.documents.now.table of.version of.told contents c.args.body.now _
    ((idles_rest _ _ (Says newest of.version of.told contents) of.says (c.reply_to_query-read.ensures.looks.reads.lists honest)).each _
    (g.met.D.Disk.reads_may_stay c.reply_to_query-read.new.disk (g.D.Disk.attached c.reply_to_query-read.new.disk)
    (subst IsTrue (sym c.reply_to_query-read.ensures.honest) honest)))
    c.reply_to_query-read.result (c.reply_to_query-read.ensures.met honest))

pub returns-clause-works : goal.returns-clause-works
returns-clause-works g c =
    let W = DocumentsWork g.C.PageCache.pages (g.D.Disk.is_honest c.args.disk.now)
    (record c.args.documents.now { store = c.reply_to_query-read.new.store })
    (g.D.Disk.history c.reply_to_query-read.new.disk (g.D.Disk.attached c.reply_to_query-read.new.disk)) in
    let P : Result Reply Fault → Type 0 = λ answer. OnOk answer W in
    subst P (sym c.answer_of_read.ensures)
    (works_read g.C.PageCache.pages _ c.args.documents.now _ _ _ _ _ c.requires.works c.reply_to_query-read.result c.reply_to_query-read.ensures.looks)

pub returns-clause-counted : goal.returns-clause-counted
returns-clause-counted g c =
    let P : Result Reply Fault → Type 0 = λ answer. CountsAnswer answer (g.D.Disk.faults c.args.disk.now)
    (g.D.Disk.faults c.reply_to_query-read.new.disk) in
    subst P (sym c.answer_of_read.ensures)
    (counted_read g.C.PageCache.pages _ c.args.documents.now _ _ _ _ _ c.requires.works c.reply_to_query-read.result c.reply_to_query-read.ensures.looks)

pub returns-clause-never_falls : goal.returns-clause-never_falls
returns-clause-never_falls g c = c.reply_to_query-read.ensures.looks.reads.never_falls

pub returns-clause-lists : goal.returns-clause-lists
returns-clause-lists g c = λ honest. c.reply_to_query-read.ensures.looks.reads.lists honest

pub returns-clause-readable : goal.returns-clause-readable
returns-clause-readable g c = λ honest rests. idles_stay _ _ SaysReadable rests (c.reply_to_query-read.ensures.looks.reads.lists honest)

pub returns-clause-few : goal.returns-clause-few
returns-clause-few g c = λ honest. (c.reply_to_query-read.ensures.few honest, c.reply_to_query-read.ensures.none)

pub returns-clause-bound : goal.returns-clause-bound
returns-clause-bound g c = λ honest before holds.
    subst (λ policy. c.reply_to_query-read.new.steps
    ≤ c.args.steps.now + 2 * query_need (rows_under policy (query_in c.args.body.now.params c.args.body.now.text) before)
    (query_in c.args.body.now.params c.args.body.now.text) before)
    (policy_held g.C.PageCache.pages _ c.args.documents.now _ before c.requires.works holds honest)
    (c.reply_to_query-read.ensures.bound honest before holds.contents
    (just_policies g.C.PageCache.pages _ c.args.documents.now _ before c.requires.works holds honest))

pub returns-clause-course : goal.returns-clause-course
returns-clause-course g c =
    let honest = g.D.Disk.is_honest c.args.disk.now in
    let old = standing_of c.args.documents.now in
    let new = standing_of (record c.args.documents.now { store = c.reply_to_query-read.new.store }) in
    let P : Result Reply Fault → Type 0 = λ answer. IfOk answer
    (λ reply. Course honest (line.Query c.args.body.now) reply old new) in
    subst P (sym c.answer_of_read.ensures)
    (with_course honest (line.Query c.args.body.now) (read_answer c.reply_to_query-read.result) old new c.requires.works.table
    (same_policies c.args.documents.now.table)
    (may_read (policy_now c.args.documents.now.table) c.args.body.now c.reply_to_query-read.result c.reply_to_query-read.ensures.fits)
    (done_queried honest c.args.body.now c.reply_to_query-read.result old new c.reply_to_query-read.ensures.met refl
    (same_contents c.args.documents.now.store c.reply_to_query-read.new.store c.reply_to_query-read.ensures.looks.reads.same.same)))
