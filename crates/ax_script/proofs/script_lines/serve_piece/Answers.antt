-- The first line in the rest is served, or the rest has no newline.
use Rattle.std.proofs.Common.{ℕ, ◌++◌, ◌∙◌, List, IsTrue, Bool, refl, sym, subst, arith}
use Rattle.ax_container.specs.Container.{Container}
use Rattle.ax_lines.specs.ScriptLines.{IsOneLine}
use Rattle.ax_lines.proofs.Splits.{IsOneLine-append}
use Rattle.ax_engine.specs.Engine.{HoldsOver, Works}
use Rattle.ax_engine.specs.Course.{standing_of}
use Rattle.ax_script.specs.Answered.{AnswersLine, AnswersLines, BreaksLine, IsDurable}
use Rattle.ax_script.specs.Progress.{outlets, Serves, BeginsToServe, ServesLines, StopsBy}
use Rattle.ax_script.proofs.AnsweredLines.{AnsweredIn, answered_begins, answered_breaks, answered_ends, answered_goes_on, answered_stops, works_durable}
use Rattle.ax_script.proofs.ServedLines.{InPiece, piece_begins, piece_goes_on, piece_fails}
use Rattle.ax_script.proofs.ServedLines.{piece_ends, piece_breaks_off}
use Rattle.ax_engine.proofs.Applying.{rests_over}
use Rattle.ax_script.proofs.script_lines.serve_piece.Goals as goal

pub lines-init : goal.lines-init
lines-init g c = record {
  part = λ honest before holds. (
    before,
    holds,
    piece_begins _ before _ c.args.piece.now _ c.requires.line
        (rests_over g.C.PageCache.pages _ c.args.engine.now _ before c.requires.works holds),
  );
  answered = answered_begins (g.D.Disk.is_honest c.args.disk.now) c.args.pending.now.items c.args.piece.now
      (standing_of c.args.engine.now.documents) _ c.requires.line;
  policy = refl;
  line = c.requires.line;
  works = c.requires.works;
  unfaulted = c.requires.unfaulted;
  uncounted = refl;
  sink_faults = omega arith;
  steps = omega arith;
  attached = refl;
  honest = refl;
}

pub lines-preserved : goal.lines-preserved
lines-preserved g c = record {
  part = λ honest before holds.
      let p = c.lines.invariant.part honest before holds in
      let S : Bool → Type 0 = λ h. (now : Container)
      × HoldsOver c.serve_head.new.engine (g.D.Disk.history c.serve_head.new.disk (g.D.Disk.attached c.serve_head.new.disk)) now
      × Serves (IsTrue h) p.0 (c.lines.pending.items ++ c.in-Some.head.now) now
      (outlets (g.K.Sink.written c.lines.sink) (g.D.Disk.history c.lines.disk
      (g.D.Disk.attached c.lines.disk)) c.lines.steps)
      (outlets (g.K.Sink.written c.serve_head.new.sink)
      (g.D.Disk.history c.serve_head.new.disk
      (g.D.Disk.attached c.serve_head.new.disk)) c.serve_head.new.steps) in
      let served = subst S c.lines.invariant.honest (c.in_default-serve_head.ensures.ok (subst IsTrue (sym c.lines.invariant.honest) honest) p.0 p.1) in
      let P : List ℕ → Type 0 = λ pending. InPiece (IsTrue (g.D.Disk.is_honest c.args.disk.now)) before served.0
      c.args.pending.now.items pending c.args.piece.now c.in-Some.tail.now
      (outlets (g.K.Sink.written c.args.sink.now)
      (g.D.Disk.history c.args.disk.now (g.D.Disk.attached c.args.disk.now)) c.args.steps.now)
      (outlets (g.K.Sink.written c.serve_head.new.sink)
      (g.D.Disk.history c.serve_head.new.disk
      (g.D.Disk.attached c.serve_head.new.disk)) c.serve_head.new.steps) in (
        served.0,
        served.1,
        subst P (sym c.in_default-serve_head.ensures.empty)
            (piece_goes_on _ before p.0 _ _ _ _ _ _ p.2 served.0 c.in-Some.head.now
            c.in-Some.tail.now _ c.in-Some.ensures.split c.in-Some.ensures.line served.2),
      );
  answered =
      let P : List ℕ → Type 0 = λ pending. AnsweredIn (g.D.Disk.is_honest c.args.disk.now) c.args.pending.now.items pending c.args.piece.now
      c.in-Some.tail.now (standing_of c.args.engine.now.documents) (standing_of c.serve_head.new.engine.documents) (g.K.Sink.written c.args.sink.now) (g.K.Sink.written c.serve_head.new.sink) in
      subst P (sym c.in_default-serve_head.ensures.empty)
      (answered_goes_on (g.D.Disk.is_honest c.args.disk.now) _ _ _ _ _ _ _ _ c.lines.invariant.answered c.in-Some.head.now c.in-Some.tail.now
      (standing_of c.serve_head.new.engine.documents) _ c.in-Some.ensures.split c.in-Some.ensures.line
      (subst (λ honest. AnswersLine honest (c.lines.pending.items ++ c.in-Some.head.now)
      (standing_of c.lines.engine.documents) (standing_of c.serve_head.new.engine.documents)
      (g.K.Sink.written c.lines.sink) (g.K.Sink.written c.serve_head.new.sink))
      c.lines.invariant.honest c.in_default-serve_head.ensures.answered));
  policy = c.in_default-serve_head.ensures.policy ∙ c.lines.invariant.policy;
  line = subst IsOneLine (sym c.in_default-serve_head.ensures.empty) refl;
  works = subst (λ honest. Works g.C.PageCache.pages honest c.serve_head.new.engine
      (g.D.Disk.history c.serve_head.new.disk (g.D.Disk.attached c.serve_head.new.disk)))
      (sym c.in_default-serve_head.ensures.honest) c.in_default-serve_head.ensures.works;
  unfaulted = c.in_default-serve_head.ensures.unfaulted;
  uncounted = c.in_default-serve_head.ensures.disk_counted ∙ c.lines.invariant.uncounted;
  sink_faults = omega (arith, c.lines.invariant.sink_faults, c.in_default-serve_head.ensures.sink_faults);
  steps = omega (arith, c.lines.invariant.steps, c.in_default-serve_head.ensures.steps);
  attached = c.in_default-serve_head.ensures.attached ∙ c.lines.invariant.attached;
  honest = c.in_default-serve_head.ensures.honest ∙ c.lines.invariant.honest;
}

pub returns-in-Err-clause-err : goal.returns-in-Err-clause-err
returns-in-Err-clause-err g c = λ honest before holds.
    let p = c.lines.invariant.part honest before holds in
    let S : Bool → Type 0 = λ h.
    BeginsToServe (IsTrue h) p.0 (c.lines.pending.items ++ c.in-Some.head.now)
    (outlets (g.K.Sink.written c.lines.sink) (g.D.Disk.history c.lines.disk
    (g.D.Disk.attached c.lines.disk)) c.lines.steps)
    (outlets (g.K.Sink.written c.serve_head.new.sink)
    (g.D.Disk.history c.serve_head.new.disk
    (g.D.Disk.attached c.serve_head.new.disk)) c.serve_head.new.steps) in
    let begun = subst S c.lines.invariant.honest (c.in-Err.ensures.err (subst IsTrue (sym c.lines.invariant.honest) honest) p.0 p.1) in
    piece_fails _ before p.0 _ _ _ _ _ _ p.2 c.in-Some.head.now c.in-Some.tail.now _
    c.in-Some.ensures.split c.in-Some.ensures.line begun

pub returns-in-Ok-clause-ok : goal.returns-in-Ok-clause-ok
returns-in-Ok-clause-ok g c = λ honest before holds.
    let p = c.lines.invariant.part honest before holds in
    let P : List ℕ → Type 0 = λ pending. ServesLines (IsTrue (g.D.Disk.is_honest c.args.disk.now)) before
    (c.args.pending.now.items ++ c.args.piece.now) p.0 pending
    (outlets (g.K.Sink.written c.args.sink.now)
    (g.D.Disk.history c.args.disk.now (g.D.Disk.attached c.args.disk.now)) c.args.steps.now)
    (outlets (g.K.Sink.written c.lines.sink) (g.D.Disk.history c.lines.disk
    (g.D.Disk.attached c.lines.disk)) c.lines.steps) in (
      p.0,
      p.1,
      subst P (sym c.in-Ok.ensures.items)
          (piece_ends _ before p.0 _ _ _ _ _ _ p.2 c.in_default.ensures.none),
    )

pub returns-in-Ok-clause-line : goal.returns-in-Ok-clause-line
returns-in-Ok-clause-line g c =
    subst IsOneLine (sym c.in-Ok.ensures.items)
    (IsOneLine-append c.lines.pending.items c.lines.rest.now c.lines.invariant.line c.in_default.ensures.none)

pub returns-in-Err-put_behind-clause-err : goal.returns-in-Err-put_behind-clause-err
returns-in-Err-put_behind-clause-err g c = λ honest before holds.
    let p = c.lines.invariant.part honest before holds in
    piece_breaks_off _ before p.0 _ _ _ _ _ _ p.2

pub returns-in-Err-clause-sound : goal.returns-in-Err-clause-sound
returns-in-Err-clause-sound g c = λ honest before holds.
    let p = c.lines.invariant.part honest before holds in
    c.in-Err.ensures.sound (subst IsTrue (sym c.lines.invariant.honest) honest) p.0 p.1

pub returns-in-Err-clause-only : goal.returns-in-Err-clause-only
returns-in-Err-clause-only g c =
    subst (λ h. StopsBy h c.in-Err.status (g.D.Disk.history c.serve_head.new.disk (g.D.Disk.attached c.serve_head.new.disk)))
    c.lines.invariant.honest c.in-Err.ensures.only

pub returns-in-Ok-clause-answered : goal.returns-in-Ok-clause-answered
returns-in-Ok-clause-answered g c =
    let P : List ℕ → Type 0 = λ pending. AnswersLines (g.D.Disk.is_honest c.args.disk.now)
    (c.args.pending.now.items ++ c.args.piece.now) pending
    (standing_of c.args.engine.now.documents) (standing_of c.lines.engine.documents)
    (g.K.Sink.written c.args.sink.now) (g.K.Sink.written c.lines.sink) in
    subst P (sym c.in-Ok.ensures.items)
    (answered_ends (g.D.Disk.is_honest c.args.disk.now) _ _ _ _ _ _ _ _ c.lines.invariant.answered c.in_default.ensures.none)

pub returns-in-Err-clause-broken : goal.returns-in-Err-clause-broken
returns-in-Err-clause-broken g c =
    answered_breaks (g.D.Disk.is_honest c.args.disk.now) _ _ _ _ _ _ _ _ c.lines.invariant.answered c.in-Some.head.now c.in-Some.tail.now _
    c.in-Err.status _ c.in-Some.ensures.split c.in-Some.ensures.line
    (subst (λ honest. BreaksLine c.in-Err.status honest (c.lines.pending.items ++ c.in-Some.head.now)
    (standing_of c.lines.engine.documents) (g.D.Disk.history c.serve_head.new.disk (g.D.Disk.attached c.serve_head.new.disk))
    (g.K.Sink.written c.lines.sink) (g.K.Sink.written c.serve_head.new.sink))
    c.lines.invariant.honest c.in-Err.ensures.broken)

pub returns-in-Err-put_behind-clause-broken : goal.returns-in-Err-put_behind-clause-broken
returns-in-Err-put_behind-clause-broken g c =
    answered_stops (g.D.Disk.is_honest c.args.disk.now) _ _ _ _ _ _ _ _ c.lines.invariant.answered _
    (subst (λ honest. IsDurable honest (standing_of c.lines.engine.documents) (g.D.Disk.history c.lines.disk (g.D.Disk.attached c.lines.disk)))
    c.lines.invariant.honest
    (works_durable g.C.PageCache.pages (g.D.Disk.is_honest c.lines.disk) c.lines.engine _ c.lines.invariant.works c.lines.invariant.unfaulted))
