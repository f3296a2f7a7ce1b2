-- What lines were answered, whatever the store holds: one, those of a piece, and all that a run took.
use Rattle.std.proofs.Common.{◌≡◌, ◌==◌, ◌⊎◌, ◌+◌, ◌<◌, true, false, true≢false, inl, inr, ℕ, Bool, List, [], ◌∷◌, ◌++◌, length}
use Rattle.std.proofs.Common.{Option, None, Result, Ok, Err, OnOk, OnErr, refl, sym, ap, subst, ◌∙◌, append_assoc, append-nil, length-append, arith}
use Rattle.std.specs.Prelude.{◌≢◌, IfErr, IfOk, IsTrue}
use Rattle.std.specs.Io.KnownBytes.{Consumes, IsAtEnd, Keeps}
use Rattle.std.proofs.KnownBytes.{Appends-nil, Appends-trans, Consumes-kept, Consumes-nil, Consumes-trans}
use Rattle.ax_area.specs.Contents.{no_contents}
use Rattle.ax_disk.specs.model.Calls.{Idles}
use Rattle.ax_disk.specs.model.Image.{Image}
use Rattle.ax_disk.specs.model.Moments.{History}
use Rattle.ax_disk.specs.model.Pending.{MayLeave, Unsynced}
use Rattle.ax_cache.specs.Pages.{CachedPages}
use Rattle.ax_store.proofs.StoreLemmas.{agrees_says}
use Rattle.ax_engine.specs.Course.{Course, IsOpenedFrom, Standing, standing_of}
use Rattle.ax_engine.specs.Engine.{LeavesLists, Works}
use Rattle.ax_engine.specs.declared.engine.Engine.{Engine}
use Rattle.ax_engine.specs.Reading.{IsWritten, Writes, text_of_reply}
use Rattle.ax_engine.proofs.Applying.{if_ok}
use Rattle.ax_engine.specs.declared.engine.Fault.{Fault}
use Rattle.ax_engine.specs.declared.engine.Fault.TheVariants as fault
use Rattle.ax_engine.specs.declared.reply.Reply.{Reply}
use Rattle.ax_engine.specs.declared.reply.Reply.TheVariants as given
use Rattle.ax_lines.proofs.Splits.{AreLines-more, AreLines-none, AreLines-one, IsOneLine-append, there_are_lines}
use Rattle.ax_lines.specs.Answers.{Answers}
use Rattle.ax_lines.specs.Lines.{is_judged_at_once, line_of}
use Rattle.ax_lines.specs.ScriptLines.{AreLines, IsOneLine, last_line, with_newline}
use Rattle.ax_lines.specs.declared.line.Line.{Line}
use Rattle.ax_lines.specs.declared.line.Line.TheVariants as line
use Rattle.ax_lines.specs.declared.line.LineFault.{LineFault}
use Rattle.ax_lines.specs.declared.line.LineFault.TheVariants as line_fault
use Rattle.ax_lines.specs.declared.refusal.Refusal.{Refusal}
use Rattle.ax_lines.specs.declared.refusal.Refusal.TheVariants as refusal
use Rattle.ax_policy.specs.Table.{fresh}
use Rattle.ax_script.specs.Answered.{AnswersAll, AnswersLast, AnswersLine, AnswersLines, AnswersTaken, TellsAnswered, TellsOpened}
use Rattle.ax_script.specs.Answered.{BreaksFirst, BreaksLine, BreaksLines, BreaksRun, IsDurable}
use Rattle.ax_script.specs.Progress.{EndsEarly, IsLineFault, StopsBy}
use Rattle.ax_script.specs.Replies.{AreTextsTo, IsAnswer, IsAnswerTo, IsTextTo, WritesPart, WritesWhole, fault_status, read_status, unread_refusal}
use Rattle.ax_script.specs.Script.{most_input}
use Rattle.ax_script.specs.Streams.{Streams}
use Rattle.ax_script.specs.declared.status.Status.{Status}
use Rattle.ax_script.specs.declared.status.Status.TheVariants as status
use Rattle.ax_script.proofs.Endings.{streams}
use Rattle.ax_script.proofs.Outcomes.{OnOk-map}

-- ---- the answer to a line

module _ (honest : Bool) (bytes : List ℕ) (was now : Standing) where
  -- a line that was read
  pub read_by_course : (asked : Line) (result : Result Reply Fault) → line_of bytes ≡ Ok asked
      → IfOk result (λ reply. Course honest asked reply was now) → IfOk result (λ reply. IsAnswer honest bytes reply was now)
  read_by_course asked result is course =
      subst (λ (m : Result Line Refusal). IfOk result (λ reply. IsAnswerTo honest (is_judged_at_once bytes) m reply was now)) (sym is)
      (if_ok result (λ reply. IsAnswerTo honest (is_judged_at_once bytes) (Ok asked) reply was now)
      (λ reply same. inl (subst (λ (r : Result Reply Fault). IfOk r (λ reply. Course honest asked reply was now)) same course)))

  refused_to : (at_once : Bool) (why : Refusal) → now ≡ was → IsAnswerTo honest at_once (Err why) (given.Refused why) was now
  refused_to true why still = (refl, still)
  refused_to false why still = (inl refl, still)

  -- one that is refused
  refused_is : (why : Refusal) → line_of bytes ≡ Err why → now ≡ was → IsAnswer honest bytes (given.Refused why) was now
  refused_is why is still =
      subst (λ (m : Result Line Refusal). IsAnswerTo honest (is_judged_at_once bytes) m (given.Refused why) was now) (sym is)
      (refused_to (is_judged_at_once bytes) why still)

  memory_to : (at_once : Bool) (meant : Result Line Refusal) → (at_once ≡ true → (why : Refusal) → meant ≡ Err why → ⊥) → now ≡ was
      → IsAnswerTo honest at_once meant (given.Refused refusal.Memory) was now
  memory_to at_once (Ok asked) none still = inr (refl, still)
  memory_to true (Err why) none still = absurd (none refl why refl)
  memory_to false (Err why) none still = (inr refl, still)

  -- memory may run out at any line that is not refused at once
  memory_is : (read : Result Line LineFault) → read ≡ Err line_fault.Memory
      → (is_judged_at_once bytes ≡ true → (why : Refusal) → line_of bytes ≡ Err why → read ≡ Err (line_fault.Refused why))
      → now ≡ was → IsAnswer honest bytes (given.Refused refusal.Memory) was now
  memory_is read is told still =
      memory_to (is_judged_at_once bytes) (line_of bytes) (λ once why meant. cc (is, told once why meant)) still

  -- one that was not read is told its refusal, or that memory ran out
  pub unread_is : (read : Result Line LineFault) (fault : LineFault) → read ≡ Err fault → Answers read (line_of bytes)
      → (is_judged_at_once bytes ≡ true → (why : Refusal) → line_of bytes ≡ Err why → read ≡ Err (line_fault.Refused why))
      → now ≡ was → IsAnswer honest bytes (given.Refused (unread_refusal fault)) was now
  unread_is read (line_fault.Refused why) is answers told still =
      refused_is why (subst (λ (r : Result Line LineFault). Answers r (line_of bytes)) is answers) still
  unread_is read line_fault.Memory is answers told still = memory_is read is told still

  pub line_answered : (result : Result (Unit {0}) Status) (answered : Result Reply Fault) (old new : Option (List ℕ))
      → IfOk answered (λ reply. IsAnswer honest bytes reply was now)
      → OnOk result (WritesWhole answered old new) → OnOk result (AnswersLine honest bytes was now old new)
  line_answered result (Ok made) old new is whole = OnOk-map result (λ added. (added.0, (made, is, added.1), added.2)) whole
  line_answered result (Err why) old new is whole = OnOk-map result (λ none. absurd none) whole

  -- one that is not answered has nothing written, or a first piece of its reply
  pub line_broken : (result : Result (Unit {0}) Status) (answered : Result Reply Fault) (old new : Option (List ℕ))
      → IfOk answered (λ reply. IsAnswer honest bytes reply was now)
      → OnErr result (WritesPart answered old new) → IfErr result IsLineFault
      → (result ≡ Err status.DiskFault → answered ≡ Err fault.Disk)
      → ((extent at : ℕ) → result ≡ Err (status.Damaged extent at) → answered ≡ Err (fault.Damaged extent at))
      → ((why : Fault) → answered ≡ Err why → result ≡ Err (fault_status why)) → answered ≢ Err fault.Sink
      → (after : History) → ((made : Reply) → answered ≡ Ok made → IsDurable honest now after)
      → ((extent at : ℕ) → answered ≡ Err (fault.Damaged extent at) → IsDurable honest was after)
      → IfErr result (λ ended. BreaksLine ended honest bytes was after old new)
  line_broken (Ok done) answered old new is part only disk damage told no_sink after left there = tt
  line_broken (Err status.WriteFault) (Ok made) old new is part only disk damage told no_sink after left there =
      (part.0, now, (made, is, part.1), part.2, left made refl)
  line_broken (Err status.WriteFault) (Err fault.Disk) old new is part only disk damage told no_sink after left there =
      absurd (let same : Err status.WriteFault ≡ Err status.DiskFault = told fault.Disk refl in cc)
  line_broken (Err status.WriteFault) (Err (fault.Damaged extent at)) old new is part only disk damage told no_sink after left there =
      absurd (let same : Err status.WriteFault ≡ Err (status.Damaged extent at) = told (fault.Damaged extent at) refl in cc)
  line_broken (Err status.WriteFault) (Err fault.Sink) old new is part only disk damage told no_sink after left there =
      absurd (no_sink refl)
  line_broken (Err status.DiskFault) answered old new is part only disk damage told no_sink after left there =
      (sym (subst (λ (a : Result Reply Fault). WritesPart a old new) (disk refl) part), tt)
  line_broken (Err (status.Damaged extent at)) answered old new is part only disk damage told no_sink after left there =
      (sym (subst (λ (a : Result Reply Fault). WritesPart a old new) (damage extent at refl) part), there extent at (damage extent at refl))
  line_broken (Err status.Done) answered old new is part only disk damage told no_sink after left there = absurd only
  line_broken (Err status.Words) answered old new is part only disk damage told no_sink after left there = absurd only
  line_broken (Err status.ReadFault) answered old new is part only disk damage told no_sink after left there = absurd only
  line_broken (Err (status.Newer version)) answered old new is part only disk damage told no_sink after left there = absurd only
  line_broken (Err status.Memory) answered old new is part only disk damage told no_sink after left there = absurd only
  line_broken (Err status.Long) answered old new is part only disk damage told no_sink after left there = absurd only

  -- ---- a READ line, whose reply the engine has written

  read_whole : (told : Result (Unit {0}) Fault) (answer : Result Reply Fault) (old new : Option (List ℕ))
      → IfOk answer (λ reply. IsAnswer honest bytes reply was now) → IsWritten answer told old new
      → OnOk (read_status told) (AnswersLine honest bytes was now old new)
  read_whole (Ok done) (Ok made) old new is written = (text_of_reply made, (made, is, inl refl), written)
  read_whole (Ok done) (Err why) old new is written = absurd (let same : Ok done ≡ Err why = written.0 in cc)
  read_whole (Err why) answer old new is written = tt

  pub read_answered : (id : List ℕ) (result : Result (Unit {0}) Status) (told : Result (Unit {0}) Fault)
      (old new : Option (List ℕ)) → result ≡ read_status told → line_of bytes ≡ Ok (line.Read id)
      → Writes (λ answer. IfOk answer (λ reply. Course honest (line.Read id) reply was now)) told old new
      → OnOk result (AnswersLine honest bytes was now old new)
  read_answered id result told old new same is writes =
      subst (λ (r : Result (Unit {0}) Status). OnOk r (AnswersLine honest bytes was now old new)) (sym same)
      (read_whole told writes.0 old new (read_by_course (line.Read id) writes.0 is writes.1) writes.2)

  module _ (after : History) where
    read_piece : (told : Result (Unit {0}) Fault) (answer : Result Reply Fault) (old new : Option (List ℕ))
        → IfOk answer (λ reply. IsAnswer honest bytes reply was now) → IsWritten answer told old new
        → (told ≡ Err fault.Sink → IsDurable honest now after)
        → ((extent at : ℕ) → told ≡ Err (fault.Damaged extent at) → IsDurable honest was after)
        → IfErr (read_status told) (λ ended. BreaksLine ended honest bytes was after old new)
    read_piece (Ok done) answer old new is written left there = tt
    read_piece (Err fault.Sink) (Ok made) old new is written left there =
        (text_of_reply made, now, (made, is, inl refl), written, left refl)
    read_piece (Err fault.Disk) (Ok made) old new is written left there = absurd written
    read_piece (Err (fault.Damaged extent at)) (Ok made) old new is written left there = absurd written
    read_piece (Err fault.Sink) (Err why) old new is written left there =
        absurd (written.1 (let same : Err fault.Sink ≡ Err why = written.0 in cc))
    read_piece (Err fault.Disk) (Err why) old new is written left there = (written.2, tt)
    read_piece (Err (fault.Damaged extent at)) (Err why) old new is written left there = (written.2, there extent at refl)

    pub read_broken : (id : List ℕ) (result : Result (Unit {0}) Status) (told : Result (Unit {0}) Fault)
        (old new : Option (List ℕ)) → result ≡ read_status told → line_of bytes ≡ Ok (line.Read id)
        → Writes (λ answer. IfOk answer (λ reply. Course honest (line.Read id) reply was now)) told old new
        → (told ≡ Err fault.Sink → IsDurable honest now after)
        → ((extent at : ℕ) → told ≡ Err (fault.Damaged extent at) → IsDurable honest was after)
        → IfErr result (λ ended. BreaksLine ended honest bytes was after old new)
    read_broken id result told old new same is writes left there =
        subst (λ (r : Result (Unit {0}) Status). IfErr r (λ ended. BreaksLine ended honest bytes was after old new)) (sym same)
        (read_piece told writes.0 old new (read_by_course (line.Read id) writes.0 is writes.1) writes.2 left there)

-- nothing was written where memory ran out, or too much was taken
none_by_memory : (honest : Bool) (left : List (List ℕ)) (was : Standing) (after : History) (written : Option (List ℕ))
    → IsDurable honest was after → BreaksFirst status.Memory honest left was after written written
none_by_memory honest [] was after written durable = ((λ is. cc), refl, durable)
none_by_memory honest (line ∷ left) was after written durable = (refl, durable)

none_by_length : (honest : Bool) (left : List (List ℕ)) (was : Standing) (after : History) (written : Option (List ℕ))
    → IsDurable honest was after → BreaksFirst status.Long honest left was after written written
none_by_length honest [] was after written durable = ((λ is. cc), refl, durable)
none_by_length honest (line ∷ left) was after written durable = (refl, durable)

-- what stands for what the first line finds, where there is none
pub nothing_found : Standing
nothing_found = record { table = fresh; ids = []; contents = no_contents }

module _ (honest : Bool) where
  -- ---- texts of lines

  one_text : (bytes text : List ℕ) (was now : Standing) → IsTextTo honest bytes text was now → AreTextsTo honest (bytes ∷ []) text was now
  one_text bytes text was now is = (text, [], now, is, (refl, refl), sym (append-nil text))

  texts_append : (lines more : List (List ℕ)) (text other : List ℕ) (was mid now : Standing) → AreTextsTo honest lines text was mid
      → AreTextsTo honest more other mid now → AreTextsTo honest (lines ++ more) (text ++ other) was now
  texts_append [] more text other was mid now first second =
      subst (λ (t : List ℕ). AreTextsTo honest more (t ++ other) was now) (sym first.0)
      (subst (λ (w : Standing). AreTextsTo honest more other w now) first.1 second)
  texts_append (bytes ∷ lines) more text other was mid now first second = (
    first.0,
    first.1 ++ other,
    first.2,
    first.3,
    texts_append lines more first.1 other first.2 mid now first.4 second,
    ap (λ (t : List ℕ). t ++ other) first.5 ∙ append_assoc first.0 first.1 other,
  )

  -- ---- lines of a piece

  answers_nothing : (pending : List ℕ) (was : Standing) (written : Option (List ℕ)) → IsOneLine pending
      → AnswersLines honest pending pending was was written written
  answers_nothing pending was written plain = record {
    lines = [];
    text = [];
    split = AreLines-none pending plain;
    answered = (refl, refl);
    appended = Appends-nil written;
  }

  answers_one : (pending head : List ℕ) (was now : Standing) (old new : Option (List ℕ)) → IsOneLine pending → IsOneLine head
      → AnswersLine honest (pending ++ head) was now old new → AnswersLines honest (pending ++ with_newline head) [] was now old new
  answers_one pending head was now old new p q answered = record {
    lines = (pending ++ head) ∷ [];
    text = answered.0;
    split = AreLines-one pending head p q;
    answered = one_text (pending ++ head) answered.0 was now answered.1;
    appended = answered.2;
  }

  answers_more : (bytes piece pending rest : List ℕ) (was mid now : Standing) (old between new : Option (List ℕ))
      → AnswersLines honest bytes pending was mid old between → AnswersLines honest (pending ++ piece) rest mid now between new
      → AnswersLines honest (bytes ++ piece) rest was now old new
  answers_more bytes piece pending rest was mid now old between new first second = record {
    lines = first.lines ++ second.lines;
    text = first.text ++ second.text;
    split = AreLines-more bytes piece first.lines second.lines pending rest first.split second.split;
    answered = texts_append first.lines second.lines first.text second.text was mid now first.answered second.answered;
    appended = Appends-trans old between new first.text second.text first.appended second.appended;
  }

  -- the prefix of a piece that was answered, and what it left
  pub record AnsweredIn (first pending piece rest : List ℕ) (was now : Standing) (old new : Option (List ℕ)) : Type 0 where
    pub done : List ℕ
    pub whole : piece ≡ done ++ rest
    pub answers : AnswersLines honest (first ++ done) pending was now old new

  pub answered_begins : (first piece : List ℕ) (was : Standing) (written : Option (List ℕ)) → IsOneLine first
      → AnsweredIn first first piece piece was was written written
  answered_begins first piece was written plain = record {
    done = [];
    whole = refl;
    answers = subst (λ bytes. AnswersLines honest bytes first was was written written) (sym (append-nil first))
        (answers_nothing first was written plain);
  }

  module _ (first pending piece rest : List ℕ) (was now : Standing) (old new : Option (List ℕ))
      (p : AnsweredIn first pending piece rest was now old new) where
    -- the first line of the rest was answered
    pub answered_goes_on : (head tail : List ℕ) (behind : Standing) (later : Option (List ℕ)) → rest ≡ with_newline head ++ tail
        → IsOneLine head → AnswersLine honest (pending ++ head) now behind new later
        → AnsweredIn first [] piece tail was behind old later
    answered_goes_on head tail behind later split plain answered = record {
      done = p.done ++ with_newline head;
      whole = p.whole ∙ ap (λ l. p.done ++ l) split ∙ sym (append_assoc p.done (with_newline head) tail);
      answers = subst (λ bytes. AnswersLines honest bytes [] was behind old later) (append_assoc first p.done (with_newline head))
          (answers_more (first ++ p.done) (with_newline head) pending [] was now behind old new later p.answers
          (answers_one pending head now behind new later p.answers.split.no_newline plain answered));
    }

    -- its serving broke off
    pub answered_breaks : (head tail : List ℕ) (later : Option (List ℕ)) (ended : Status) (after : History) → rest ≡ with_newline head ++ tail
        → IsOneLine head → BreaksLine ended honest (pending ++ head) now after new later
        → BreaksLines ended honest (first ++ piece) was after old later
    answered_breaks head tail later ended after split plain broken =
        let others = there_are_lines tail in
        record {
          lines = p.answers.lines ++ (pending ++ head) ∷ others.0;
          last = others.1;
          served = p.answers.lines;
          left = (pending ++ head) ∷ others.0;
          text = p.answers.text;
          now = now;
          between = new;
          split = subst (λ bytes. AreLines bytes (p.answers.lines ++ (pending ++ head) ∷ others.0) others.1)
              (append_assoc first p.done (with_newline head ++ tail) ∙ ap (λ l. first ++ l) (ap (λ l. p.done ++ l) (sym split) ∙ sym p.whole))
              (AreLines-more (first ++ p.done) (with_newline head ++ tail) p.answers.lines ((pending ++ head) ∷ others.0) pending others.1
              p.answers.split
              (subst (λ bytes. AreLines bytes ((pending ++ head) ∷ others.0) others.1) (append_assoc pending (with_newline head) tail)
              (AreLines-more (pending ++ with_newline head) tail ((pending ++ head) ∷ []) others.0 [] others.1
              (AreLines-one pending head p.answers.split.no_newline plain) others.2)));
          parted = refl;
          answered = p.answers.answered;
          appended = p.answers.appended;
          broken = broken;
        }

    -- the rest could not be kept
    pub answered_stops : (after : History) → IsDurable honest now after → BreaksLines status.Memory honest (first ++ piece) was after old new
    answered_stops after durable =
        let others = there_are_lines (pending ++ rest) in
        record {
          lines = p.answers.lines ++ others.0;
          last = others.1;
          served = p.answers.lines;
          left = others.0;
          text = p.answers.text;
          now = now;
          between = new;
          split = subst (λ bytes. AreLines bytes (p.answers.lines ++ others.0) others.1)
              (append_assoc first p.done rest ∙ ap (λ l. first ++ l) (sym p.whole))
              (AreLines-more (first ++ p.done) rest p.answers.lines others.0 pending others.1 p.answers.split others.2);
          parted = refl;
          answered = p.answers.answered;
          appended = p.answers.appended;
          broken = none_by_memory honest others.0 now after new durable;
        }

    -- no newline is left
    pub answered_ends : IsOneLine rest → AnswersLines honest (first ++ piece) (pending ++ rest) was now old new
    answered_ends plain =
        subst (λ bytes. AnswersLines honest bytes (pending ++ rest) was now old new)
        (append_assoc first p.done rest ∙ ap (λ l. first ++ l) (sym p.whole))
        (answers_more (first ++ p.done) rest pending (pending ++ rest) was now now old new new p.answers
        (answers_nothing (pending ++ rest) now new (IsOneLine-append pending rest p.answers.split.no_newline plain)))

  -- ---- the last piece

  pub last_answered : (last : List ℕ) (was now : Standing) (old new : Option (List ℕ)) → false ≡ (length last == 0)
      → AnswersLine honest last was now old new → AnswersLast honest last was now old new
  last_answered [] was now old new some answered = absurd (true≢false (sym some))
  last_answered (byte ∷ bytes) was now old new some answered =
      (answered.0, one_text (byte ∷ bytes) answered.0 was now answered.1, answered.2)

  pub last_broken : (last : List ℕ) (was : Standing) (after : History) (old new : Option (List ℕ)) (ended : Status)
      → false ≡ (length last == 0) → BreaksLine ended honest last was after old new
      → BreaksFirst ended honest (last_line last) was after old new
  last_broken [] was after old new ended some broken = absurd (true≢false (sym some))
  last_broken (byte ∷ bytes) was after old new ended some broken = broken

  pub no_last : (last : List ℕ) (was : Standing) (written : Option (List ℕ)) → last ≡ [] → AnswersLast honest last was was written written
  no_last last was written none =
      subst (λ (l : List ℕ). AnswersLast honest l was was written written) (sym none) ([], (refl, refl), Appends-nil written)

  -- ---- a run

  -- what was taken was answered, and it has so many bytes
  abbrev pub AnswersSoMany : Standing → Standing → Streams → Streams → List ℕ → ℕ → Type 0
  AnswersSoMany was now old new pending count = (all : AnswersTaken honest was now old new pending) × (length all.taken ≡ count)

  pub answers_begin : (was : Standing) (old : Streams) → AnswersSoMany was was old old [] 0
  answers_begin was old = (
    record {
      taken = [];
      lines = [];
      text = [];
      moves = record { consumed = Consumes-nil old.remaining; appended = Appends-nil old.written };
      split = AreLines-none [] refl;
      answered = (refl, refl);
    },
    refl,
  )

  module _ (was now : Standing) (old new : Streams) (pending : List ℕ) (count : ℕ)
      (p : AnswersSoMany was now old new pending count) where
    pub answers_go_on : (behind : Standing) (remaining written : Option (List ℕ)) (steps : ℕ) (piece rest : List ℕ) (n : ℕ)
        → Consumes new.remaining remaining piece → length piece ≡ n
        → AnswersLines honest (pending ++ piece) rest now behind new.written written
        → AnswersSoMany was behind old (streams remaining written steps) rest (count + n)
    answers_go_on behind remaining written steps piece rest n consumed size more = (
      record {
        taken = p.0.taken ++ piece;
        lines = p.0.lines ++ more.lines;
        text = p.0.text ++ more.text;
        moves = record {
          consumed = Consumes-trans old.remaining new.remaining remaining p.0.taken piece p.0.moves.consumed consumed;
          appended = Appends-trans old.written new.written written p.0.text more.text p.0.moves.appended more.appended;
        };
        split = AreLines-more p.0.taken piece p.0.lines more.lines pending rest p.0.split more.split;
        answered = texts_append p.0.lines more.lines p.0.text more.text was now behind p.0.answered more.answered;
      },
      omega (arith, length-append p.0.taken piece, p.1, size),
    )

    -- a read failed
    pub answered_to_a_fault : (remaining : Option (List ℕ)) (after : History) → IsDurable honest now after → Keeps new.remaining remaining
        → TellsAnswered honest was after status.ReadFault old (streams remaining new.written new.steps)
    answered_to_a_fault remaining after durable kept = (
      pending,
      now,
      record {
        taken = p.0.taken;
        lines = p.0.lines;
        text = p.0.text;
        moves = record {
          consumed = Consumes-kept old.remaining new.remaining remaining p.0.taken p.0.moves.consumed kept;
          appended = p.0.moves.appended;
        };
        split = p.0.split;
        answered = p.0.answered;
      },
      durable,
    )

    -- the serving of a piece broke off
    broken_in_piece : (remaining written : Option (List ℕ)) (steps : ℕ) (piece : List ℕ) (ended : Status) (after : History)
        → Consumes new.remaining remaining piece → BreaksLines ended honest (pending ++ piece) now after new.written written
        → BreaksRun ended honest was after old (streams remaining written steps)
    broken_in_piece remaining written steps piece ended after consumed more = record {
      taken = p.0.taken ++ piece;
      lines = p.0.lines ++ more.lines;
      last = more.last;
      served = p.0.lines ++ more.served;
      left = more.left;
      text = p.0.text ++ more.text;
      now = more.now;
      between = more.between;
      consumed = Consumes-trans old.remaining new.remaining remaining p.0.taken piece p.0.moves.consumed consumed;
      split = AreLines-more p.0.taken piece p.0.lines more.lines pending more.last p.0.split more.split;
      parted = inl (append_assoc p.0.lines more.served more.left ∙ ap (λ (l : List (List ℕ)). p.0.lines ++ l) more.parted);
      answered = texts_append p.0.lines more.served p.0.text more.text was now more.now p.0.answered more.answered;
      appended = Appends-trans old.written new.written more.between p.0.text more.text p.0.moves.appended more.appended;
      broken = more.broken;
    }

    pub stopped_answered : (trusted : Bool) (history : History) (remaining written : Option (List ℕ)) (steps : ℕ)
        (piece : List ℕ) (ended : Status) → Consumes new.remaining remaining piece
        → BreaksLines ended honest (pending ++ piece) now history new.written written → StopsBy trusted ended history
        → TellsAnswered honest was history ended old (streams remaining written steps)
    stopped_answered trusted history remaining written steps piece status.DiskFault consumed more stops =
        broken_in_piece remaining written steps piece status.DiskFault history consumed more
    stopped_answered trusted history remaining written steps piece status.WriteFault consumed more stops =
        broken_in_piece remaining written steps piece status.WriteFault history consumed more
    stopped_answered trusted history remaining written steps piece (status.Damaged extent at) consumed more stops =
        inl (broken_in_piece remaining written steps piece (status.Damaged extent at) history consumed more)
    stopped_answered trusted history remaining written steps piece status.Memory consumed more stops =
        inl (broken_in_piece remaining written steps piece status.Memory history consumed more)
    stopped_answered trusted history remaining written steps piece status.Done consumed more stops = absurd stops
    stopped_answered trusted history remaining written steps piece status.ReadFault consumed more stops = absurd stops
    stopped_answered trusted history remaining written steps piece status.Long consumed more stops = absurd stops
    stopped_answered trusted history remaining written steps piece status.Words consumed more stops = absurd stops
    stopped_answered trusted history remaining written steps piece (status.Newer version) consumed more stops = absurd stops

    -- more was taken than one run takes
    pub taken_long : (remaining : Option (List ℕ)) (after : History) (piece : List ℕ) (n : ℕ) → Consumes new.remaining remaining piece
        → length piece ≡ n → most_input < count + n → IsDurable honest now after
        → TellsAnswered honest was after status.Long old (streams remaining new.written new.steps)
    taken_long remaining after piece n consumed size more durable =
        let others = there_are_lines (pending ++ piece) in
        let enough : most_input < length (p.0.taken ++ piece) = omega (arith, length-append p.0.taken piece, p.1, size, more) in (
          record {
            taken = p.0.taken ++ piece;
            lines = p.0.lines ++ others.0;
            last = others.1;
            served = p.0.lines;
            left = others.0;
            text = p.0.text;
            now = now;
            between = new.written;
            consumed = Consumes-trans old.remaining new.remaining remaining p.0.taken piece p.0.moves.consumed consumed;
            split = AreLines-more p.0.taken piece p.0.lines others.0 pending others.1 p.0.split others.2;
            parted = inl refl;
            answered = p.0.answered;
            appended = p.0.moves.appended;
            broken = none_by_length honest others.0 now after new.written durable;
          },
          enough,
        )

    answered_all : (behind : Standing) (after : History) (remaining written : Option (List ℕ)) (steps : ℕ) → Consumes new.remaining remaining []
        → IsAtEnd remaining → AnswersLast honest pending now behind new.written written → IsDurable honest behind after
        → AnswersAll honest was after old (streams remaining written steps)
    answered_all behind after remaining written steps consumed at_end last durable = record {
      taken = p.0.taken;
      lines = p.0.lines;
      last = pending;
      text = p.0.text ++ last.0;
      now = behind;
      moves = record {
        consumed = subst (Consumes old.remaining remaining) (append-nil p.0.taken)
            (Consumes-trans old.remaining new.remaining remaining p.0.taken [] p.0.moves.consumed consumed);
        appended = Appends-trans old.written new.written written p.0.text last.0 p.0.moves.appended last.2;
      };
      split = p.0.split;
      answered = texts_append p.0.lines (last_line pending) p.0.text last.0 was now behind p.0.answered last.1;
      durable = durable;
      at_end = at_end;
    }

    -- the serving of the last piece broke off
    broken_at_end : (remaining written : Option (List ℕ)) (steps : ℕ) (ended : Status) (after : History)
        → Consumes new.remaining remaining [] → IsAtEnd remaining
        → BreaksFirst ended honest (last_line pending) now after new.written written
        → BreaksRun ended honest was after old (streams remaining written steps)
    broken_at_end remaining written steps ended after consumed at_end broken = record {
      taken = p.0.taken;
      lines = p.0.lines;
      last = pending;
      served = p.0.lines;
      left = last_line pending;
      text = p.0.text;
      now = now;
      between = new.written;
      consumed = subst (Consumes old.remaining remaining) (append-nil p.0.taken)
          (Consumes-trans old.remaining new.remaining remaining p.0.taken [] p.0.moves.consumed consumed);
      split = p.0.split;
      parted = inr (at_end, refl);
      answered = p.0.answered;
      appended = p.0.moves.appended;
      broken = broken;
    }

    -- the source has ended, and the last piece was served, or its serving broke off
    pub answered_at_end : (behind : Standing) (trusted : Bool) (history : History) (remaining written : Option (List ℕ)) (steps : ℕ)
        (ended : Status) → Consumes new.remaining remaining [] → IsAtEnd remaining
        → (ended ≡ status.Done → AnswersLast honest pending now behind new.written written)
        → (ended ≡ status.Done) ⊎ BreaksFirst ended honest (last_line pending) now history new.written written
        → (ended ≡ status.Done) ⊎ StopsBy trusted ended history → (ended ≡ status.Done → IsDurable honest behind history)
        → TellsAnswered honest was history ended old (streams remaining written steps)
    answered_at_end behind trusted history remaining written steps status.Done consumed at_end last broken only durable =
        answered_all behind history remaining written steps consumed at_end (last refl) (durable refl)
    answered_at_end behind trusted history remaining written steps status.ReadFault consumed at_end last broken (inl is) durable = absurd cc
    answered_at_end behind trusted history remaining written steps status.ReadFault consumed at_end last broken (inr stops) durable = absurd stops
    answered_at_end behind trusted history remaining written steps status.Long consumed at_end last broken (inl is) durable = absurd cc
    answered_at_end behind trusted history remaining written steps status.Long consumed at_end last broken (inr stops) durable = absurd stops
    answered_at_end behind trusted history remaining written steps status.Words consumed at_end last broken (inl is) durable = absurd cc
    answered_at_end behind trusted history remaining written steps status.Words consumed at_end last broken (inr stops) durable = absurd stops
    answered_at_end behind trusted history remaining written steps (status.Newer version) consumed at_end last broken (inl is) durable = absurd cc
    answered_at_end behind trusted history remaining written steps (status.Newer version) consumed at_end last broken (inr stops) durable =
        absurd stops
    answered_at_end behind trusted history remaining written steps status.DiskFault consumed at_end last (inl is) only durable = absurd cc
    answered_at_end behind trusted history remaining written steps status.DiskFault consumed at_end last (inr broken) only durable =
        broken_at_end remaining written steps status.DiskFault history consumed at_end broken
    answered_at_end behind trusted history remaining written steps status.WriteFault consumed at_end last (inl is) only durable = absurd cc
    answered_at_end behind trusted history remaining written steps status.WriteFault consumed at_end last (inr broken) only durable =
        broken_at_end remaining written steps status.WriteFault history consumed at_end broken
    answered_at_end behind trusted history remaining written steps (status.Damaged extent at) consumed at_end last (inl is) only durable = absurd cc
    answered_at_end behind trusted history remaining written steps (status.Damaged extent at) consumed at_end last (inr broken) only durable =
        inl (broken_at_end remaining written steps (status.Damaged extent at) history consumed at_end broken)
    answered_at_end behind trusted history remaining written steps status.Memory consumed at_end last (inl is) only durable = absurd cc
    answered_at_end behind trusted history remaining written steps status.Memory consumed at_end last (inr broken) only durable =
        inl (broken_at_end remaining written steps status.Memory history consumed at_end broken)

  -- nothing was taken yet when the disk failed
  nothing_broken : (was : Standing) (after : History) (remaining written : Option (List ℕ)) (before steps : ℕ)
      → BreaksRun status.DiskFault honest was after (streams remaining written before) (streams remaining written steps)
  nothing_broken was after remaining written before steps = record {
    taken = [];
    lines = [];
    last = [];
    served = [];
    left = [];
    text = [];
    now = was;
    between = written;
    consumed = Consumes-nil remaining;
    split = AreLines-none [] refl;
    parted = inl refl;
    answered = (refl, refl);
    appended = Appends-nil written;
    broken = ((λ is. cc), refl, tt);
  }

  -- no memory was left for what serving takes
  pub memory_answered : (was : Standing) (after : History) (remaining written : Option (List ℕ)) (before steps : ℕ)
      → TellsAnswered honest was after status.Memory (streams remaining written before) (streams remaining written steps)
  memory_answered was after remaining written before steps = inr (refl, refl)

  -- the store was not opened
  pub early_answered : (was : Standing) (after : History) (ended : Status) (remaining written : Option (List ℕ)) (before steps : ℕ) → EndsEarly ended
      → TellsAnswered honest was after ended (streams remaining written before) (streams remaining written steps)
  early_answered was after status.Done remaining written before steps early = absurd early
  early_answered was after status.ReadFault remaining written before steps early = absurd early
  early_answered was after status.Long remaining written before steps early = absurd early
  early_answered was after status.WriteFault remaining written before steps early = absurd early
  early_answered was after status.Words remaining written before steps early = absurd early
  early_answered was after status.DiskFault remaining written before steps early = nothing_broken was after remaining written before steps
  early_answered was after (status.Damaged extent at) remaining written before steps early = inr (refl, refl)
  early_answered was after (status.Newer version) remaining written before steps early = (refl, refl)
  early_answered was after status.Memory remaining written before steps early = memory_answered was after remaining written before steps

  module _ (image : Image) (was : Standing) where
    pub early_opened : (ended : Status) (remaining written : Option (List ℕ)) (before steps : ℕ) → EndsEarly ended
        → TellsOpened ended honest image was (streams remaining written before) (streams remaining written steps)
    early_opened status.Done remaining written before steps early = absurd early
    early_opened status.ReadFault remaining written before steps early = absurd early
    early_opened status.Long remaining written before steps early = absurd early
    early_opened status.WriteFault remaining written before steps early = absurd early
    early_opened status.Words remaining written before steps early = absurd early
    early_opened status.DiskFault remaining written before steps early = inr (refl, refl)
    early_opened (status.Damaged extent at) remaining written before steps early = inr (refl, refl)
    early_opened (status.Newer version) remaining written before steps early = inr (refl, refl)
    early_opened status.Memory remaining written before steps early = inr (refl, refl)

    -- it was, and the first line finds what opening gave
    pub opened_tells : (ended : Status) (old new : Streams) → (IsTrue honest → IsOpenedFrom image was) → TellsOpened ended honest image was old new
    opened_tells status.Done old new opened = opened
    opened_tells status.ReadFault old new opened = opened
    opened_tells status.Long old new opened = opened
    opened_tells status.WriteFault old new opened = opened
    opened_tells status.Words old new opened = inl opened
    opened_tells status.DiskFault old new opened = inl opened
    opened_tells (status.Damaged extent at) old new opened = inl opened
    opened_tells (status.Newer version) old new opened = inl opened
    opened_tells status.Memory old new opened = inl opened

-- ---- what lines left

-- an engine that works and has answered no fault has contents that each image says which a crash may leave
pub works_durable : {C : Type 0} (pages : C → CachedPages) (honest : Bool) (engine : Engine C) (history : History)
    → Works pages honest engine history → engine.fault ≡ None → IsDurable honest (standing_of engine.documents) history
works_durable pages honest engine history works none = λ is.
    let says = agrees_says pages engine.documents.store history ((works.documents none).agrees is) in
    (says.version, says.told, says.says)

-- a call that leaves the disk's lists as they were leaves them so that they say what they said
pub idle_durable : (honest : Bool) (now : Standing) (old new : History) → (IsTrue honest → Idles old new)
    → IsDurable honest now old → IsDurable honest now new
idle_durable honest now old new idles durable = λ is.
    let told = durable is in (
      told.0,
      told.1,
      record {
        each = λ image may. told.2.each image (subst (λ (u : Unsynced). MayLeave u image) (idles is).unsynced may);
      },
    )

-- where a line meets damage it leaves the disk's lists as they were
pub damaged_idles : (asked : Line) (extent at : ℕ) (old new : History) → LeavesLists asked (Err (fault.Damaged extent at)) old new → Idles old new
damaged_idles (line.Create tree) extent at old new idle = idle
damaged_idles (line.Upsert tree) extent at old new idle = idle
damaged_idles (line.Replace tree) extent at old new idle = idle
damaged_idles (line.Delete id) extent at old new idle = idle
damaged_idles (line.Read id) extent at old new idle = idle
damaged_idles (line.Query body) extent at old new idle = idle

pub on_ok : {A B : Type 0} (result : Result A B) (P : Type 0) (value : A) → result ≡ Ok value → OnOk result P → P
on_ok result P value is holds = subst (λ r. OnOk r P) is holds
