-- A last piece that is not empty is a line.
use Rattle.std.proofs.Common.{◌≡◌, List, [], ℕ, length, inr, refl, IsTrue, ◌∙◌, sym, subst}
use Rattle.ax_engine.specs.Course.{standing_of}
use Rattle.ax_script.specs.Progress.{ServesLast, outlets}
use Rattle.ax_script.proofs.AnsweredLines.{last_answered, last_broken, no_last, works_durable}
use Rattle.ax_script.proofs.ServedLines.{serves_last, serves_no_last, begins_last}
use Rattle.ax_engine.proofs.Applying.{rests_over}
use Rattle.ax_script.proofs.Written.{empty_list}
use Rattle.ax_script.proofs.script_lines.serve_last.Goals as goal

pub returns-in-Ok-clause-done : goal.returns-in-Ok-clause-done
returns-in-Ok-clause-done g c = λ honest before holds _.
    let served = c.in-Ok.ensures.whole honest before holds in
    serves_last _ before served.0 c.args.pending.now _ _ (c.if-is_empty.ensures) served.2

pub returns-in-Err-clause-prefix : goal.returns-in-Err-clause-prefix
returns-in-Err-clause-prefix g c = λ honest before holds _.
    begins_last _ before c.args.pending.now _ _ (c.if-is_empty.ensures) (c.in-Err.ensures.prefix honest before holds)

pub returns-then-is_empty-clause-done : goal.returns-then-is_empty-clause-done
returns-then-is_empty-clause-done g c = λ honest before holds _.
    let none : c.args.pending.now ≡ [] =
    empty_list c.args.pending.now (length c.args.pending.now) refl (sym c.if-is_empty.true ∙ c.is_empty.ensures) in
    let here = outlets (g.K.Sink.written c.args.sink.now)
    (g.D.Disk.history c.args.disk.now (g.D.Disk.attached c.args.disk.now)) c.args.steps.now in
    let P : List ℕ → Type 0 = λ last. ServesLast (IsTrue (g.D.Disk.is_honest c.args.disk.now)) before last here here in
    subst P (sym none) (serves_no_last _ before here (rests_over g.C.PageCache.pages _ c.args.engine.now _ before c.requires.works holds))

pub returns-in-Ok-clause-answered : goal.returns-in-Ok-clause-answered
returns-in-Ok-clause-answered g c = λ _.
    last_answered (g.D.Disk.is_honest c.args.disk.now) c.args.pending.now (standing_of c.args.engine.now.documents) _ _ _
    c.if-is_empty.ensures c.in-Ok.ensures.answered

pub returns-then-is_empty-clause-answered : goal.returns-then-is_empty-clause-answered
returns-then-is_empty-clause-answered g c = λ _.
    no_last (g.D.Disk.is_honest c.args.disk.now) c.args.pending.now (standing_of c.args.engine.now.documents) _
    (empty_list c.args.pending.now (length c.args.pending.now) refl (sym c.if-is_empty.true ∙ c.is_empty.ensures))

pub returns-in-Err-clause-sound : goal.returns-in-Err-clause-sound
returns-in-Err-clause-sound g c = λ honest before holds. inr (c.in-Err.ensures.sound honest before holds)

pub returns-in-Err-clause-broken : goal.returns-in-Err-clause-broken
returns-in-Err-clause-broken g c =
    inr (last_broken (g.D.Disk.is_honest c.args.disk.now) c.args.pending.now (standing_of c.args.engine.now.documents) _ _ _ c.in-Err.status
    c.if-is_empty.ensures (c.in-Err.ensures.broken c.requires.unfaulted))

pub returns-in-Ok-clause-durable : goal.returns-in-Ok-clause-durable
returns-in-Ok-clause-durable g c = λ _.
    works_durable g.C.PageCache.pages (g.D.Disk.is_honest c.args.disk.now) c.serve_line.new.engine _ c.in-Ok.ensures.works
    (c.in-Ok.ensures.unfaulted ∙ c.requires.unfaulted)

pub returns-then-is_empty-clause-durable : goal.returns-then-is_empty-clause-durable
returns-then-is_empty-clause-durable g c = λ _.
    works_durable g.C.PageCache.pages (g.D.Disk.is_honest c.args.disk.now) c.args.engine.now _ c.requires.works c.requires.unfaulted
