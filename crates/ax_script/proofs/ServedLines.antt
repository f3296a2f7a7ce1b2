-- What the serving of lines and of pieces of the input leaves.
use Rattle.std.proofs.Common.{◌≡◌, ◌==◌, false, true≢false, ℕ, List, [], ◌∷◌, ◌++◌, length}
use Rattle.std.proofs.Common.{refl, sym, ap, ◌∙◌, subst, append_assoc, append-nil, take}
use Rattle.std.proofs.Common.{drop, take-append-drop, arith}
use Rattle.std.proofs.KnownBytes.{Appends-nil, Appends-trans}
use Rattle.ax_container.specs.Container.{Container}
use Rattle.ax_lines.specs.ScriptLines.{with_newline, IsOneLine, last_line}
use Rattle.ax_lines.proofs.Splits.{IsOneLine-append, AreLines-more, AreLines-none, AreLines-one}
use Rattle.ax_lines.proofs.Splits.{there_are_lines}
use Rattle.ax_machine.specs.ReplyTexts.{reply_text}
use Rattle.ax_machine.specs.Run.{reply_to, text_of}
use Rattle.ax_machine.proofs.Runs.{text_of-one}
use Rattle.ax_disk.specs.model.Stays.{Rests, Turns}
use Rattle.ax_script.specs.Script.{Answers, BeginsToAnswer}
use Rattle.ax_script.specs.Progress.{Serves, BeginsToServe, ServesLines, BeginsLines, ServesLast}
use Rattle.ax_documents.specs.Opening.{IsImageOf}
use Rattle.ax_script.specs.Progress.{BeginsLast, Passes, BreaksOff}
use Rattle.ax_script.specs.Streams.{Outlets}
use Rattle.ax_script.proofs.Answering.{Answers-nil, answers_some, Answers-append}
use Rattle.ax_script.proofs.Answering.{BeginsToAnswer-append, stands-append}
use Rattle.ax_script.proofs.Answering.{begins_more, prefix_len}
use Rattle.ax_script.proofs.Counting.{bounded_one, bounded_append, bounded_longer}
use Rattle.ax_script.proofs.DiskMoments.{moments_one, passes_nothing, passes_on}
use Rattle.ax_script.proofs.DiskMoments.{breaks_off_after, breaks_off_longer, breaks_off_behind}

module _ (honest : Type 0) where
  -- ---- one line

  -- the answer of a line, as a run of one
  pub answers_line : (before now : Container) (line : List ℕ) (old new : Outlets)
      (served : Serves honest before line now old new)
      → Answers before (line ∷ []) (record { line = line; outcome = served.outcome } ∷ [])
      (reply_text (reply_to before line served.outcome))
  answers_line before now line old new served =
      record { answered = refl; replies = sym (text_of-one before line served.outcome) }

  pub begins_to_answer_line : (before : Container) (line : List ℕ) (old new : Outlets)
      (served : BeginsToServe honest before line old new)
      → BeginsToAnswer before (line ∷ []) (record { line = line; outcome = served.outcome } ∷ [])
      (take served.replied.0 (reply_text (reply_to before line served.outcome)))
  begins_to_answer_line before line old new served =
      let reply = reply_text (reply_to before line served.outcome) in
      record {
        rest = drop served.replied.0 reply;
        answers = record {
          answered = refl;
          replies = take-append-drop served.replied.0 reply
              ∙ sym (text_of-one before line served.outcome);
        };
      }

  line_passed : (before now : Container) (line : List ℕ) (old new : Outlets)
      (served : Serves honest before line now old new)
      → Passes honest before (record { line = line; outcome = served.outcome } ∷ []) now old.history
      new.history
  line_passed before now line old new served = record {
    moments = λ h. moments_one before line served.outcome old.history new.history
        (subst (λ c. Turns old.history new.history (IsImageOf before) (IsImageOf c)) served.made
        (served.turns h));
    rests = served.rests;
  }

  line_begun : (before : Container) (line : List ℕ) (old new : Outlets)
      (served : BeginsToServe honest before line old new)
      → BreaksOff honest before (record { line = line; outcome = served.outcome } ∷ [])
      (take served.replied.0 (reply_text (reply_to before line served.outcome))) old.history
      new.history
  line_begun before line old new served = record {
    moments = λ h. moments_one before line served.outcome old.history new.history (served.turns h);
    rests = served.rests;
  }

  -- a line in two pieces was served
  pub serves_line : (before now : Container) (pending head : List ℕ) (old new : Outlets)
      → IsOneLine pending → IsOneLine head
      → Serves honest before (pending ++ head) now old new
      → ServesLines honest before (pending ++ with_newline head) now [] old new
  serves_line before now pending head old new p q served = record {
    lines = (pending ++ head) ∷ [];
    run = record { line = pending ++ head; outcome = served.outcome } ∷ [];
    text = reply_text (reply_to before (pending ++ head) served.outcome);
    split = AreLines-one pending head p q;
    answers = answers_line before now (pending ++ head) old new served;
    stands = served.made;
    appended = served.replied;
    disk = line_passed before now (pending ++ head) old new served;
    bounded = bounded_one before (pending ++ head) served.outcome old.steps new.steps
        served.bounded;
  }

  pub begins_line : (before : Container) (pending head : List ℕ) (old new : Outlets)
      → IsOneLine pending → IsOneLine head
      → BeginsToServe honest before (pending ++ head) old new
      → BeginsLines honest before (pending ++ with_newline head) old new
  begins_line before pending head old new p q served = record {
    lines = (pending ++ head) ∷ [];
    last = [];
    run = record { line = pending ++ head; outcome = served.outcome } ∷ [];
    text = take served.replied.0 (reply_text (reply_to before (pending ++ head) served.outcome));
    split = AreLines-one pending head p q;
    answers = begins_to_answer_line before (pending ++ head) old new served;
    appended = served.replied.2;
    disk = line_begun before (pending ++ head) old new served;
    bounded = bounded_one before (pending ++ head) served.outcome old.steps new.steps
        served.bounded;
  }

  -- ---- some lines, and then more

  -- nothing was taken
  pub serves_nothing : (before : Container) (pending : List ℕ) (old : Outlets)
      → IsOneLine pending → (honest → Rests old.history (IsImageOf before))
      → ServesLines honest before pending before pending old old
  serves_nothing before pending old plain rests = record {
    lines = [];
    run = [];
    text = [];
    split = AreLines-none pending plain;
    answers = Answers-nil before;
    stands = refl;
    appended = Appends-nil old.written;
    disk = passes_nothing honest before old.history rests;
    bounded = omega arith;
  }

  pub serves_more : (a b c : Container) (bytes piece pending rest : List ℕ)
      (old between new : Outlets)
      → ServesLines honest a bytes b pending old between
      → ServesLines honest b (pending ++ piece) c rest between new
      → ServesLines honest a (bytes ++ piece) c rest old new
  serves_more a b c bytes piece pending rest old between new first second = record {
    lines = first.lines ++ second.lines;
    run = first.run ++ second.run;
    text = first.text ++ second.text;
    split = AreLines-more bytes piece first.lines second.lines pending rest first.split second.split;
    answers = Answers-append a b first.lines second.lines first.run second.run first.text second.text
        first.answers first.stands second.answers;
    stands = stands-append a b c first.run second.run first.stands second.stands;
    appended = Appends-trans old.written between.written new.written first.text second.text first.appended second.appended;
    disk = passes_on honest a b c first.run second.run old.history between.history new.history
        first.stands first.disk second.disk;
    bounded = bounded_append a b first.run second.run old.steps between.steps new.steps first.stands
        first.bounded second.bounded;
  }

  pub begins_after : (a b : Container) (bytes piece pending : List ℕ)
      (old between new : Outlets)
      → ServesLines honest a bytes b pending old between → BeginsLines honest b (pending ++ piece) between new
      → BeginsLines honest a (bytes ++ piece) old new
  begins_after a b bytes piece pending old between new first second = record {
    lines = first.lines ++ second.lines;
    last = second.last;
    run = first.run ++ second.run;
    text = first.text ++ second.text;
    split = AreLines-more bytes piece first.lines second.lines pending second.last first.split
        second.split;
    answers = BeginsToAnswer-append a b first.lines second.lines first.run second.run first.text
        second.text first.answers first.stands second.answers;
    appended = Appends-trans old.written between.written new.written first.text second.text first.appended second.appended;
    disk = breaks_off_after honest a b first.run second.run first.text second.text old.history
        between.history new.history first.stands first.answers.replies first.disk second.disk;
    bounded = bounded_append a b first.run second.run old.steps between.steps new.steps first.stands
        first.bounded second.bounded;
  }

  -- what begins with some of the bytes begins with all
  pub begins_longer : (a : Container) (bytes piece : List ℕ) (old new : Outlets)
      → BeginsLines honest a bytes old new → BeginsLines honest a (bytes ++ piece) old new
  begins_longer a bytes piece old new begun =
      let later = there_are_lines (begun.last ++ piece) in
      let longer = begins_more a begun.lines later.0 begun.run begun.text begun.answers in
      record {
        lines = begun.lines ++ later.0;
        last = later.1;
        run = begun.run ++ longer.0;
        text = begun.text;
        split = AreLines-more bytes piece begun.lines later.0 begun.last later.1 begun.split later.2;
        answers = longer.1;
        appended = begun.appended;
        disk = breaks_off_longer honest a begun.run longer.0 begun.text old.history new.history
            (prefix_len a begun.lines begun.run begun.text begun.answers) begun.disk;
        bounded = bounded_longer a begun.run longer.0 old.steps new.steps begun.bounded;
      }

  -- nothing was written of what the lines among the bytes are answered
  pub begins_with_no_line : (before : Container) (bytes : List ℕ) (old : Outlets)
      → (honest → Rests old.history (IsImageOf before)) → BeginsLines honest before bytes old old
  begins_with_no_line before bytes old rests =
      let are = there_are_lines bytes in
      let some = answers_some before are.0 in
      record {
        lines = are.0;
        last = are.1;
        run = some.0;
        text = [];
        split = are.2;
        answers = record { rest = text_of before some.0; answers = some.1 };
        appended = Appends-nil old.written;
        disk = breaks_off_longer honest before [] some.0 [] old.history old.history (omega arith)
            (breaks_off_behind honest before before [] [] old.history old.history refl
            (passes_nothing honest before old.history rests));
        bounded = omega arith;
      }

  -- ---- a piece: a prefix of it is served, and the rest is to do

  -- the prefix of a piece that is served, and what it left
  pub record InPiece (before now : Container) (first pending piece rest : List ℕ)
      (old new : Outlets) : Type 0 where
    pub done : List ℕ
    pub whole : piece ≡ done ++ rest
    pub served : ServesLines honest before (first ++ done) now pending old new

  pub piece_begins : (before : Container) (first piece : List ℕ) (old : Outlets)
      → IsOneLine first → (honest → Rests old.history (IsImageOf before))
      → InPiece before before first first piece piece old old
  piece_begins before first piece old plain rests = record {
    done = [];
    whole = refl;
    served = subst (λ bytes. ServesLines honest before bytes before first old old) (sym (append-nil first))
        (serves_nothing before first old plain rests);
  }

  module _ (before now : Container) (first pending piece rest : List ℕ) (old new : Outlets)
      (p : InPiece before now first pending piece rest old new) where
    regrouped : (first ++ p.done) ++ rest ≡ first ++ piece
    regrouped = append_assoc first p.done rest ∙ ap (λ l. first ++ l) (sym p.whole)

    -- the first line of the rest was served
    pub piece_goes_on : (later : Container) (head tail : List ℕ) (new' : Outlets)
        → rest ≡ with_newline head ++ tail → IsOneLine head
        → Serves honest now (pending ++ head) later new new'
        → InPiece before later first [] piece tail old new'
    piece_goes_on later head tail new' split plain served = record {
      done = p.done ++ with_newline head;
      whole = p.whole ∙ ap (λ l. p.done ++ l) split
          ∙ sym (append_assoc p.done (with_newline head) tail);
      served = subst (λ bytes. ServesLines honest before bytes later [] old new')
          (append_assoc first p.done (with_newline head))
          (serves_more before now later (first ++ p.done)
          (with_newline head) pending [] old new new' p.served
          (serves_line now later pending head new new' p.served.split.no_newline plain served));
    }

    -- its serving broke off
    pub piece_fails : (head tail : List ℕ) (new' : Outlets) → rest ≡ with_newline head ++ tail
        → IsOneLine head
        → BeginsToServe honest now (pending ++ head) new new' → BeginsLines honest before (first ++ piece) old new'
    piece_fails head tail new' split plain begun =
        subst (λ bytes. BeginsLines honest before bytes old new')
        (append_assoc (first ++ p.done) (with_newline head) tail
        ∙ ap (λ l. (first ++ p.done) ++ l) (sym split) ∙ regrouped)
        (begins_longer before ((first ++ p.done) ++ with_newline head) tail old new'
        (begins_after before now (first ++ p.done) (with_newline head) pending old new new' p.served
        (begins_line now pending head new new' p.served.split.no_newline plain begun)))

    -- no newline is left
    pub piece_ends : IsOneLine rest
        → ServesLines honest before (first ++ piece) now (pending ++ rest) old new
    piece_ends plain =
        subst (λ bytes. ServesLines honest before bytes now (pending ++ rest) old new) regrouped
        (serves_more before now now (first ++ p.done) rest pending
        (pending ++ rest) old new new p.served
        (serves_nothing now (pending ++ rest) new
        (IsOneLine-append pending rest p.served.split.no_newline plain) p.served.disk.rests))

    -- the rest could not be kept
    pub piece_breaks_off : BeginsLines honest before (first ++ piece) old new
    piece_breaks_off =
        subst (λ bytes. BeginsLines honest before bytes old new) regrouped
        (begins_after before now (first ++ p.done) rest pending old new new p.served
        (begins_with_no_line now (pending ++ rest) new p.served.disk.rests))

  -- ---- the last piece

  last_line-some : (last : List ℕ) → false ≡ (length last == 0) → last_line last ≡ last ∷ []
  last_line-some [] e = absurd (true≢false (sym e))
  last_line-some (byte ∷ bytes) e = refl

  pub serves_last : (before now : Container) (last : List ℕ) (old new : Outlets)
      → false ≡ (length last == 0)
      → Serves honest before last now old new → ServesLast honest before last old new
  serves_last before now last old new some served = record {
    run = record { line = last; outcome = served.outcome } ∷ [];
    text = reply_text (reply_to before last served.outcome);
    answers =
        subst (λ l. Answers before l (record { line = last; outcome = served.outcome } ∷ [])
        (reply_text (reply_to before last served.outcome)))
        (sym (last_line-some last some)) (answers_line before now last old new served);
    appended = served.replied;
    disk = breaks_off_behind honest before now
        (record { line = last; outcome = served.outcome } ∷ [])
        (reply_text (reply_to before last served.outcome)) old.history new.history served.made
        (line_passed before now last old new served);
    bounded = bounded_one before last served.outcome old.steps new.steps served.bounded;
  }

  -- no piece is left, which is no line
  pub serves_no_last : (before : Container) (old : Outlets)
      → (honest → Rests old.history (IsImageOf before)) → ServesLast honest before [] old old
  serves_no_last before old rests = record {
    run = [];
    text = [];
    answers = Answers-nil before;
    appended = Appends-nil old.written;
    disk = breaks_off_behind honest before before [] [] old.history old.history refl
        (passes_nothing honest before old.history rests);
    bounded = omega arith;
  }

  pub begins_last : (before : Container) (last : List ℕ) (old new : Outlets)
      → false ≡ (length last == 0)
      → BeginsToServe honest before last old new → BeginsLast honest before last old new
  begins_last before last old new some served = record {
    run = record { line = last; outcome = served.outcome } ∷ [];
    text = take served.replied.0 (reply_text (reply_to before last served.outcome));
    answers =
        subst (λ l. BeginsToAnswer before l (record { line = last; outcome = served.outcome } ∷ [])
        (take served.replied.0 (reply_text (reply_to before last served.outcome))))
        (sym (last_line-some last some)) (begins_to_answer_line before last old new served);
    appended = served.replied.2;
    disk = line_begun before last old new served;
    bounded = bounded_one before last served.outcome old.steps new.steps served.bounded;
  }
