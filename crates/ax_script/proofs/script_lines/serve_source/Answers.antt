-- Each way to end, from how far the run has come.
use Rattle.std.proofs.Common.{◌≡◌, ◌⊎◌, ℕ, List, [], Bool, ◌++◌, ◌∙◌, IsTrue, take, inr, refl, sym, subst, arith}
use Rattle.std.specs.Io.KnownBytes.{Consumes}
use Rattle.ax_container.specs.Container.{Container}
use Rattle.ax_lines.specs.ScriptLines.{IsOneLine, last_line}
use Rattle.ax_engine.specs.Engine.{HoldsOver, Works}
use Rattle.ax_engine.specs.Course.{standing_of}
use Rattle.ax_script.specs.Answered.{AnswersLast, AnswersLines, BreaksFirst, BreaksLines, IsDurable}
use Rattle.ax_script.specs.Progress.{outlets, ServesLines, BeginsLines, ServesLast, BeginsLast, Progress}
use Rattle.ax_script.specs.declared.status.Status.TheVariants as status
use Rattle.ax_script.proofs.AnsweredLines.{AnswersSoMany, answered_at_end, answered_to_a_fault, answers_begin}
use Rattle.ax_script.proofs.AnsweredLines.{answers_go_on, stopped_answered, taken_long, works_durable}
use Rattle.ax_script.proofs.Endings.{streams, progress_begins, progress_goes_on, ends_by_read_fault}
use Rattle.ax_script.proofs.Endings.{ends_long, ends_in_piece, ends_at_end, last_ends, last_serving}
use Rattle.ax_engine.proofs.Applying.{rests_over}
use Rattle.ax_script.proofs.script_lines.serve_source.Goals as goal

pub pieces-init : goal.pieces-init
pieces-init g c =
    let here = streams (g.S.Source.rest c.args.source.now)
    (g.K.Sink.written c.args.sink.now) c.args.steps.now in
    record {
      progress = λ honest before holds.
          let P : List ℕ → Type 0 = λ pending. Progress (IsTrue (g.D.Disk.is_honest c.args.disk.now)) before here here
          (g.D.Disk.history c.args.disk.now (g.D.Disk.attached c.args.disk.now))
          (g.D.Disk.history c.args.disk.now (g.D.Disk.attached c.args.disk.now)) before pending 0 in (
            before,
            holds,
            subst P (sym c.new-pending.ensures.items)
                (progress_begins _ before here _ (rests_over g.C.PageCache.pages _ c.args.engine.now _ before c.requires.works holds)),
          );
      answered = subst (λ pending. AnswersSoMany (g.D.Disk.is_honest c.args.disk.now) (standing_of c.args.engine.now.documents)
          (standing_of c.args.engine.now.documents) here here pending 0) (sym c.new-pending.ensures.items)
          (answers_begin (g.D.Disk.is_honest c.args.disk.now) (standing_of c.args.engine.now.documents) here);
      line = subst IsOneLine (sym c.new-pending.ensures.items) refl;
      works = c.requires.works;
      unfaulted = c.requires.unfaulted;
      within = omega arith;
      uncounted = refl;
      source_faults = omega arith;
      sink_faults = omega arith;
      steps = omega arith;
      attached = refl;
      honest = refl;
    }

pub returns-in_default-clause-script : goal.returns-in_default-clause-script
returns-in_default-clause-script g c = λ honest before holds.
    let p = c.pieces.invariant.progress honest before holds in
    ends_by_read_fault _ before _ _ _ _ p.0 _ _ p.2
    (g.S.Source.rest c.read_some.new.self) c.in_default.ensures.failed c.pieces.invariant.within

pub returns-then-count-eq0-clause-script : goal.returns-then-count-eq0-clause-script
returns-then-count-eq0-clause-script g c = λ honest before holds.
    let p = c.pieces.invariant.progress honest before holds in
    let nothing : Consumes (g.S.Source.rest c.pieces.source)
    (g.S.Source.rest c.read_some.new.self) []
    = let P : ℕ → Type 0 = λ n. Consumes (g.S.Source.rest c.pieces.source)
    (g.S.Source.rest c.read_some.new.self) (take n c.read_some.new.buf) in
    subst P c.if-count-eq0.true c.in-Ok.ensures.taken in
    let Whole : Bool → List ℕ → Type 0 = λ h last. ServesLast (IsTrue h) p.0 last
    (outlets (g.K.Sink.written c.pieces.sink)
    (g.D.Disk.history c.pieces.disk (g.D.Disk.attached c.pieces.disk)) c.pieces.steps)
    (outlets (g.K.Sink.written c.serve_last.new.sink)
    (g.D.Disk.history c.serve_last.new.disk
    (g.D.Disk.attached c.serve_last.new.disk)) c.serve_last.new.steps) in
    let Prefix : Bool → List ℕ → Type 0 = λ h last. BeginsLast (IsTrue h) p.0 last
    (outlets (g.K.Sink.written c.pieces.sink)
    (g.D.Disk.history c.pieces.disk (g.D.Disk.attached c.pieces.disk)) c.pieces.steps)
    (outlets (g.K.Sink.written c.serve_last.new.sink)
    (g.D.Disk.history c.serve_last.new.disk
    (g.D.Disk.attached c.serve_last.new.disk)) c.serve_last.new.steps) in
    ends_at_end _ before _ _ _ _ p.0 _ _ p.2 _ _ _ _ c.serve_last.result nothing
    (c.in-Ok.ensures.ended c.if-count-eq0.true
    (omega (arith, c.requires.some, c.pieces.auto.buffer, c.read_some.auto.buf)))
    c.pieces.invariant.within
    (λ is. subst (Whole (g.D.Disk.is_honest c.args.disk.now)) c.as_slice.ensures.value
    (subst (λ b. Whole b c.as_slice.result.now) c.pieces.invariant.honest
    (c.serve_last.ensures.done (subst IsTrue (sym c.pieces.invariant.honest) honest) p.0 p.1 is)))
    (λ is. subst (Prefix (g.D.Disk.is_honest c.args.disk.now)) c.as_slice.ensures.value
    (subst (λ b. Prefix b c.as_slice.result.now) c.pieces.invariant.honest
    (c.serve_last.ensures.prefix (subst IsTrue (sym c.pieces.invariant.honest) honest) p.0 p.1 is)))
    (c.serve_last.ensures.sound (subst IsTrue (sym c.pieces.invariant.honest) honest) p.0 p.1)

pub
    returns-then-taken-gt-MOST_INPUT-clause-script
    : goal.returns-then-taken-gt-MOST_INPUT-clause-script
returns-then-taken-gt-MOST_INPUT-clause-script g c = λ honest before holds.
    let p = c.pieces.invariant.progress honest before holds in
    ends_long _ before _ _ _ _ p.0 _ _ p.2 _
    (take c.in-Ok.count c.read_some.new.buf) c.in-Ok.count c.in-Ok.ensures.taken
    (sym c.in-Ok.ensures.bound.1)
    c.if-taken-gt-MOST_INPUT.true

pub returns-in-Err-clause-script : goal.returns-in-Err-clause-script
returns-in-Err-clause-script g c = λ honest before holds.
    let p = c.pieces.invariant.progress honest before holds in
    let S : Bool → Type 0 = λ h. BeginsLines (IsTrue h) p.0
    (c.pieces.pending.items ++ take c.in-Ok.count c.read_some.new.buf)
    (outlets (g.K.Sink.written c.pieces.sink)
    (g.D.Disk.history c.pieces.disk (g.D.Disk.attached c.pieces.disk)) c.pieces.steps)
    (outlets (g.K.Sink.written c.serve_piece-served.new.sink)
    (g.D.Disk.history c.serve_piece-served.new.disk
    (g.D.Disk.attached c.serve_piece-served.new.disk)) c.serve_piece-served.new.steps) in
    ends_in_piece _ before _ _ _ _ p.0 _ _ p.2 _ _ _ _
    (take c.in-Ok.count c.read_some.new.buf) c.in-Ok.count c.in-Err.status c.in-Ok.ensures.taken
    (sym c.in-Ok.ensures.bound.1)
    c.if-taken-gt-MOST_INPUT.false
    (subst S c.pieces.invariant.honest (c.in-Err.ensures.err (subst IsTrue (sym c.pieces.invariant.honest) honest) p.0 p.1))
    (c.in-Err.ensures.sound (subst IsTrue (sym c.pieces.invariant.honest) honest) p.0 p.1)

pub pieces-preserved : goal.pieces-preserved
pieces-preserved g c = record {
  progress = λ honest before holds.
      let p = c.pieces.invariant.progress honest before holds in
      let S : Bool → Type 0 = λ h. (now : Container)
      × HoldsOver c.serve_piece-served.new.engine (g.D.Disk.history c.serve_piece-served.new.disk (g.D.Disk.attached c.serve_piece-served.new.disk)) now
      × ServesLines (IsTrue h) p.0
      (c.pieces.pending.items ++ take c.in-Ok.count c.read_some.new.buf) now c.serve_piece-served.new.pending.items
      (outlets (g.K.Sink.written c.pieces.sink)
      (g.D.Disk.history c.pieces.disk (g.D.Disk.attached c.pieces.disk)) c.pieces.steps)
      (outlets (g.K.Sink.written c.serve_piece-served.new.sink)
      (g.D.Disk.history c.serve_piece-served.new.disk
      (g.D.Disk.attached c.serve_piece-served.new.disk)) c.serve_piece-served.new.steps) in
      let more = subst S c.pieces.invariant.honest (c.in_default-served.ensures.ok (subst IsTrue (sym c.pieces.invariant.honest) honest) p.0 p.1) in (
        more.0,
        more.1,
        progress_goes_on _ before _ _ _ _ p.0 _ _ p.2 _ _ _ _ more.0
            (take c.in-Ok.count c.read_some.new.buf) _ c.in-Ok.count c.in-Ok.ensures.taken
            (sym c.in-Ok.ensures.bound.1) more.2,
      );
  answered = answers_go_on (g.D.Disk.is_honest c.args.disk.now) _ _ _ _ _ _ c.pieces.invariant.answered
      (standing_of c.serve_piece-served.new.engine.documents) _ _ _
      (take c.in-Ok.count c.read_some.new.buf) _ c.in-Ok.count c.in-Ok.ensures.taken (sym c.in-Ok.ensures.bound.1)
      (subst (λ honest. AnswersLines honest (c.pieces.pending.items ++ take c.in-Ok.count c.read_some.new.buf)
      c.serve_piece-served.new.pending.items (standing_of c.pieces.engine.documents) (standing_of c.serve_piece-served.new.engine.documents)
      (g.K.Sink.written c.pieces.sink) (g.K.Sink.written c.serve_piece-served.new.sink))
      c.pieces.invariant.honest c.in_default-served.ensures.answered);
  line = c.in_default-served.ensures.line;
  works = subst (λ honest. Works g.C.PageCache.pages honest c.serve_piece-served.new.engine
      (g.D.Disk.history c.serve_piece-served.new.disk (g.D.Disk.attached c.serve_piece-served.new.disk)))
      (sym c.in_default-served.ensures.honest) c.in_default-served.ensures.works;
  unfaulted = c.in_default-served.ensures.unfaulted;
  within = c.if-taken-gt-MOST_INPUT.false;
  uncounted = c.in_default-served.ensures.disk_counted ∙ c.pieces.invariant.uncounted;
  source_faults =
      omega (arith, c.pieces.invariant.source_faults, c.read_some.ensures.cause.never_falls);
  sink_faults =
      omega (arith, c.pieces.invariant.sink_faults, c.serve_piece-served.ensures.sink_faults);
  steps = omega (arith, c.pieces.invariant.steps, c.serve_piece-served.ensures.steps);
  attached = c.in_default-served.ensures.attached ∙ c.pieces.invariant.attached;
  honest = c.in_default-served.ensures.honest ∙ c.pieces.invariant.honest;
}

-- ---- the statuses

pub returns-then-count-eq0-clause-sound : goal.returns-then-count-eq0-clause-sound
returns-then-count-eq0-clause-sound g c = λ honest before holds.
    let p = c.pieces.invariant.progress honest before holds in
    last_serving c.serve_last.result (c.serve_last.ensures.sound (subst IsTrue (sym c.pieces.invariant.honest) honest) p.0 p.1)

pub returns-then-count-eq0-clause-of_serving : goal.returns-then-count-eq0-clause-of_serving
returns-then-count-eq0-clause-of_serving g c =
    last_ends _ _ c.serve_last.result _ c.pieces.invariant.honest c.serve_last.ensures.only

pub returns-in-Err-clause-sound : goal.returns-in-Err-clause-sound
returns-in-Err-clause-sound g c = λ honest before holds.
    let p = c.pieces.invariant.progress honest before holds in
    last_serving c.in-Err.status (inr (c.in-Err.ensures.sound (subst IsTrue (sym c.pieces.invariant.honest) honest) p.0 p.1))

pub returns-in-Err-clause-of_serving : goal.returns-in-Err-clause-of_serving
returns-in-Err-clause-of_serving g c =
    last_ends _ _ c.in-Err.status _ c.pieces.invariant.honest (inr c.in-Err.ensures.only)

-- ---- what was answered

pub returns-in_default-clause-answered : goal.returns-in_default-clause-answered
returns-in_default-clause-answered g c =
    answered_to_a_fault (g.D.Disk.is_honest c.args.disk.now) _ _ _ _ _ _ c.pieces.invariant.answered (g.S.Source.rest c.read_some.new.self) _
    (subst (λ honest. IsDurable honest (standing_of c.pieces.engine.documents) (g.D.Disk.history c.pieces.disk (g.D.Disk.attached c.pieces.disk)))
    c.pieces.invariant.honest
    (works_durable g.C.PageCache.pages (g.D.Disk.is_honest c.pieces.disk) c.pieces.engine _ c.pieces.invariant.works c.pieces.invariant.unfaulted))
    c.in_default.ensures.failed

pub returns-then-count-eq0-clause-answered : goal.returns-then-count-eq0-clause-answered
returns-then-count-eq0-clause-answered g c =
    let P : ℕ → Type 0 = λ n. Consumes (g.S.Source.rest c.pieces.source)
    (g.S.Source.rest c.read_some.new.self) (take n c.read_some.new.buf) in
    let Last : List ℕ → Type 0 = λ last. AnswersLast (g.D.Disk.is_honest c.args.disk.now) last
    (standing_of c.pieces.engine.documents) (standing_of c.serve_last.new.engine.documents)
    (g.K.Sink.written c.pieces.sink) (g.K.Sink.written c.serve_last.new.sink) in
    let Broken : List ℕ → Type 0 = λ last. (c.serve_last.result ≡ status.Done)
    ⊎ BreaksFirst c.serve_last.result (g.D.Disk.is_honest c.args.disk.now) (last_line last)
    (standing_of c.pieces.engine.documents) (g.D.Disk.history c.serve_last.new.disk (g.D.Disk.attached c.serve_last.new.disk)) (g.K.Sink.written c.pieces.sink) (g.K.Sink.written c.serve_last.new.sink) in
    answered_at_end (g.D.Disk.is_honest c.args.disk.now) _ _ _ _ _ _ c.pieces.invariant.answered
    (standing_of c.serve_last.new.engine.documents) _ _ _ _ _ c.serve_last.result
    (subst P c.if-count-eq0.true c.in-Ok.ensures.taken)
    (c.in-Ok.ensures.ended c.if-count-eq0.true
    (omega (arith, c.requires.some, c.pieces.auto.buffer, c.read_some.auto.buf)))
    (λ is. subst Last c.as_slice.ensures.value (subst (λ honest. AnswersLast honest c.as_slice.result.now
    (standing_of c.pieces.engine.documents) (standing_of c.serve_last.new.engine.documents)
    (g.K.Sink.written c.pieces.sink) (g.K.Sink.written c.serve_last.new.sink))
    c.pieces.invariant.honest (c.serve_last.ensures.answered is)))
    (subst Broken c.as_slice.ensures.value (subst (λ honest. (c.serve_last.result ≡ status.Done)
    ⊎ BreaksFirst c.serve_last.result honest (last_line c.as_slice.result.now) (standing_of c.pieces.engine.documents)
    (g.D.Disk.history c.serve_last.new.disk (g.D.Disk.attached c.serve_last.new.disk))
    (g.K.Sink.written c.pieces.sink) (g.K.Sink.written c.serve_last.new.sink))
    c.pieces.invariant.honest c.serve_last.ensures.broken))
    c.serve_last.ensures.only
    (λ is. subst (λ honest. IsDurable honest (standing_of c.serve_last.new.engine.documents)
    (g.D.Disk.history c.serve_last.new.disk (g.D.Disk.attached c.serve_last.new.disk)))
    c.pieces.invariant.honest (c.serve_last.ensures.durable is))

pub returns-then-taken-gt-MOST_INPUT-clause-answered : goal.returns-then-taken-gt-MOST_INPUT-clause-answered
returns-then-taken-gt-MOST_INPUT-clause-answered g c =
    taken_long (g.D.Disk.is_honest c.args.disk.now) _ _ _ _ _ _ c.pieces.invariant.answered _
    (g.D.Disk.history c.pieces.disk (g.D.Disk.attached c.pieces.disk)) (take c.in-Ok.count c.read_some.new.buf) c.in-Ok.count
    c.in-Ok.ensures.taken (sym c.in-Ok.ensures.bound.1) c.if-taken-gt-MOST_INPUT.true
    (subst (λ honest. IsDurable honest (standing_of c.pieces.engine.documents) (g.D.Disk.history c.pieces.disk (g.D.Disk.attached c.pieces.disk)))
    c.pieces.invariant.honest
    (works_durable g.C.PageCache.pages (g.D.Disk.is_honest c.pieces.disk) c.pieces.engine _ c.pieces.invariant.works c.pieces.invariant.unfaulted))

pub returns-in-Err-clause-answered : goal.returns-in-Err-clause-answered
returns-in-Err-clause-answered g c =
    stopped_answered (g.D.Disk.is_honest c.args.disk.now) _ _ _ _ _ _ c.pieces.invariant.answered _ _ _ _ _
    (take c.in-Ok.count c.read_some.new.buf) c.in-Err.status c.in-Ok.ensures.taken
    (subst (λ honest. BreaksLines c.in-Err.status honest (c.pieces.pending.items ++ take c.in-Ok.count c.read_some.new.buf)
    (standing_of c.pieces.engine.documents) (g.D.Disk.history c.serve_piece-served.new.disk (g.D.Disk.attached c.serve_piece-served.new.disk))
    (g.K.Sink.written c.pieces.sink) (g.K.Sink.written c.serve_piece-served.new.sink))
    c.pieces.invariant.honest c.in-Err.ensures.broken)
    c.in-Err.ensures.only
