-- The line is what is pending and the head.
use Rattle.std.proofs.Common.{◌≡◌, List, ℕ, [], ◌++◌, OnOk, IsTrue, refl, sym, subst, ◌∙◌, arith}
use Rattle.std.specs.Prelude.{IfErr}
use Rattle.ax_container.specs.Container.{Container}
use Rattle.ax_machine.specs.Run.{Served}
use Rattle.ax_engine.specs.Engine.{HoldsOver}
use Rattle.ax_engine.specs.Course.{standing_of}
use Rattle.ax_script.specs.Answered.{AnswersLine, BreaksLine}
use Rattle.ax_script.specs.Progress.{Serves, outlets}
use Rattle.ax_engine.proofs.Applying.{still_over}
use Rattle.ax_script.proofs.AnsweredLines.{works_durable}
use Rattle.ax_script.proofs.Written.{begins_without, empty_list}
use Rattle.ax_script.proofs.script_lines.serve_head.Goals as goal

pub returns-then-is_empty-clause-ok : goal.returns-then-is_empty-clause-ok
returns-then-is_empty-clause-ok g c = λ honest before holds.
    let P : List ℕ → Type 0 = λ pending. OnOk c.serve_line.result ((now : Container)
    × HoldsOver c.serve_line.new.engine (g.D.Disk.history c.serve_line.new.disk (g.D.Disk.attached c.serve_line.new.disk)) now
    × Serves (IsTrue (g.D.Disk.is_honest c.args.disk.now)) before
    (pending ++ c.args.head.now) now
    (outlets (g.K.Sink.written c.args.sink.now) (g.D.Disk.history c.args.disk.now
    (g.D.Disk.attached c.args.disk.now)) c.args.steps.now)
    (outlets (g.K.Sink.written c.serve_line.new.sink)
    (g.D.Disk.history c.serve_line.new.disk
    (g.D.Disk.attached c.serve_line.new.disk)) c.serve_line.new.steps)) in
    let none : c.args.pending.now.items ≡ [] =
    empty_list c.args.pending.now.items c.args.pending.now.len (omega (arith, c.args.pending.now.ok)) (sym c.if-is_empty.true ∙ c.is_empty.ensures) in
    subst P (sym none) (c.serve_line.ensures.whole honest before holds)

pub returns-in_default-clause-err : goal.returns-in_default-clause-err
returns-in_default-clause-err g c = λ honest before holds.
    begins_without _ before _ Served _ _ _ _ _
    (still_over g.C.PageCache.pages _ c.args.engine.now _ before _ c.requires.works holds) (omega arith)

pub returns-clause-ok : goal.returns-clause-ok
returns-clause-ok g c = λ honest before holds.
    let P : List ℕ → Type 0 = λ line. (now : Container)
    × HoldsOver c.serve_line-served.new.engine (g.D.Disk.history c.serve_line-served.new.disk (g.D.Disk.attached c.serve_line-served.new.disk)) now
    × Serves (IsTrue (g.D.Disk.is_honest c.args.disk.now)) before
    line now
    (outlets (g.K.Sink.written c.args.sink.now) (g.D.Disk.history c.args.disk.now
    (g.D.Disk.attached c.args.disk.now)) c.args.steps.now)
    (outlets (g.K.Sink.written c.serve_line-served.new.sink)
    (g.D.Disk.history c.serve_line-served.new.disk
    (g.D.Disk.attached c.serve_line-served.new.disk)) c.serve_line-served.new.steps) in
    subst P (c.as_slice.ensures.value ∙ c.in-Ok.ensures.items) (c.in_default-served.ensures.whole honest before holds)

pub returns-then-is_empty-clause-answered : goal.returns-then-is_empty-clause-answered
returns-then-is_empty-clause-answered g c =
    let P : List ℕ → Type 0 = λ pending. OnOk c.serve_line.result
    (AnswersLine (g.D.Disk.is_honest c.args.disk.now) (pending ++ c.args.head.now) (standing_of c.args.engine.now.documents)
    (standing_of c.serve_line.new.engine.documents) (g.K.Sink.written c.args.sink.now) (g.K.Sink.written c.serve_line.new.sink)) in
    let none : c.args.pending.now.items ≡ [] =
    empty_list c.args.pending.now.items c.args.pending.now.len (omega (arith, c.args.pending.now.ok)) (sym c.if-is_empty.true ∙ c.is_empty.ensures) in
    subst P (sym none) c.serve_line.ensures.answered

pub returns-clause-answered : goal.returns-clause-answered
returns-clause-answered g c =
    let P : List ℕ → Type 0 = λ line. AnswersLine (g.D.Disk.is_honest c.args.disk.now) line
    (standing_of c.args.engine.now.documents) (standing_of c.serve_line-served.new.engine.documents)
    (g.K.Sink.written c.args.sink.now) (g.K.Sink.written c.serve_line-served.new.sink) in
    subst P (c.as_slice.ensures.value ∙ c.in-Ok.ensures.items) c.in_default-served.ensures.answered

pub returns-then-is_empty-clause-broken : goal.returns-then-is_empty-clause-broken
returns-then-is_empty-clause-broken g c =
    let P : List ℕ → Type 0 = λ pending. IfErr c.serve_line.result (λ ended. BreaksLine ended (g.D.Disk.is_honest c.args.disk.now)
    (pending ++ c.args.head.now) (standing_of c.args.engine.now.documents) (g.D.Disk.history c.serve_line.new.disk (g.D.Disk.attached c.serve_line.new.disk))
    (g.K.Sink.written c.args.sink.now) (g.K.Sink.written c.serve_line.new.sink)) in
    let none : c.args.pending.now.items ≡ [] =
    empty_list c.args.pending.now.items c.args.pending.now.len (omega (arith, c.args.pending.now.ok)) (sym c.if-is_empty.true ∙ c.is_empty.ensures) in
    subst P (sym none) (c.serve_line.ensures.broken c.requires.unfaulted)

pub returns-in-Err-clause-broken : goal.returns-in-Err-clause-broken
returns-in-Err-clause-broken g c =
    let P : List ℕ → Type 0 = λ line. BreaksLine c.in-Err.status (g.D.Disk.is_honest c.args.disk.now) line
    (standing_of c.args.engine.now.documents) (g.D.Disk.history c.serve_line-served.new.disk (g.D.Disk.attached c.serve_line-served.new.disk)) (g.K.Sink.written c.args.sink.now)
    (g.K.Sink.written c.serve_line-served.new.sink) in
    subst P (c.as_slice.ensures.value ∙ c.in-Ok.ensures.items) (c.in-Err.ensures.broken c.requires.unfaulted)

pub returns-in_default-clause-broken : goal.returns-in_default-clause-broken
returns-in_default-clause-broken g c =
    (refl, works_durable g.C.PageCache.pages (g.D.Disk.is_honest c.args.disk.now) c.args.engine.now _ c.requires.works c.requires.unfaulted)
