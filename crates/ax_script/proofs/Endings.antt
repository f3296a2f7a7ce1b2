-- How a run goes on from piece to piece, and how it ends.
use Rattle.std.proofs.Common.{◌≡◌, ℕ, Bool, ◌+◌, ◌<◌, ◌≤◌, ◌⊎◌, ◌↔◌, List, [], ◌++◌, length, Option, inl}
use Rattle.std.proofs.Common.{inr, refl, ap, subst, append-nil, length-append, arith}
use Rattle.std.specs.Io.KnownBytes.{Consumes, Keeps, IsAtEnd}
use Rattle.std.proofs.KnownBytes.{Consumes-nil, Consumes-trans, Consumes-kept, Appends-nil}
use Rattle.std.proofs.KnownBytes.{Appends-trans}
use Rattle.ax_container.specs.Container.{Container}
use Rattle.ax_lines.specs.ScriptLines.{last_line}
use Rattle.ax_lines.proofs.Splits.{AreLines-more, AreLines-none, there_are_lines}
use Rattle.ax_script.specs.declared.status.Status.{Status}
use Rattle.ax_script.specs.declared.status.Status.TheVariants as status
use Rattle.ax_disk.specs.model.Moments.{History}
use Rattle.ax_disk.specs.model.Stays.{Rests}
use Rattle.ax_machine.specs.Run.{text_of}
use Rattle.ax_script.specs.Progress.{ServesLines, BeginsLines, ServesLast, BeginsLast, Progress}
use Rattle.ax_documents.specs.Opening.{IsImageOf}
use Rattle.ax_script.specs.Progress.{BreaksOff, Ends, BreaksOffWith, EndsEarly, EndsServing, IsOfServing, StopsBy, outlets}
use Rattle.ax_script.specs.Script.{most_input, BeginsToAnswer, IsTextAt, Runs}
use Rattle.ax_script.specs.Streams.{Streams}
use Rattle.ax_script.proofs.Answering.{Answers-nil, Answers-append, BeginsToAnswer-append}
use Rattle.ax_script.proofs.Answering.{stands-append, BeginsToAnswer-all, begins_more}
use Rattle.ax_script.proofs.Counting.{bounded_append, bounded_longer}
use Rattle.ax_script.proofs.DiskMoments.{passes_nothing, passes_on}
use Rattle.ax_script.proofs.DiskMoments.{breaks_off_after, breaks_off_longer, breaks_off_behind}

-- the streams, of which the source or the sink has gone on
abbrev pub streams : Option (List ℕ) → Option (List ℕ) → ℕ → Streams
streams remaining written steps =
    record { remaining = remaining; written = written; steps = steps }

-- no status but `Long` is answered where no more was taken than one run takes
not_long : (ended : Status) (taken : List ℕ) → length taken ≤ most_input → (ended ≡ status.Long → ⊥)
    → (ended ≡ status.Long) ↔ (most_input < length taken)
not_long ended taken within other =
    ((λ e. absurd (other e)), (λ more. absurd (omega (arith, more, within))))

-- ---- nothing was taken, and nothing was written

not_long_early : (ended : Status) → EndsEarly ended → ended ≡ status.Long → ⊥
not_long_early status.DiskFault early e = cc
not_long_early (status.Damaged extent at) early e = cc
not_long_early (status.Newer version) early e = cc
not_long_early status.Memory early e = cc
not_long_early status.Done early e = absurd early
not_long_early status.Words early e = absurd early
not_long_early status.ReadFault early e = absurd early
not_long_early status.WriteFault early e = absurd early
not_long_early status.Long early e = absurd early

no_text_early : (ended : Status) (before : Container) (remaining : Option (List ℕ)) → EndsEarly ended
    → IsTextAt ended before remaining [] [] [] []
no_text_early status.DiskFault before remaining early =
    inl (BeginsToAnswer-all before [] [] [] (Answers-nil before))
no_text_early (status.Damaged extent at) before remaining early =
    inl (BeginsToAnswer-all before [] [] [] (Answers-nil before))
no_text_early (status.Newer version) before remaining early =
    inl (BeginsToAnswer-all before [] [] [] (Answers-nil before))
no_text_early status.Memory before remaining early =
    inl (BeginsToAnswer-all before [] [] [] (Answers-nil before))
no_text_early status.Done before remaining early = absurd early
no_text_early status.Words before remaining early = absurd early
no_text_early status.ReadFault before remaining early = absurd early
no_text_early status.WriteFault before remaining early = absurd early
no_text_early status.Long before remaining early = absurd early

-- a run that took no line, and wrote nothing
pub record EarlyRun (before : Container) (ended : Status) (at : Streams) : Type 0 where
  pub script : Runs before ended at at
  pub no_line : script.run ≡ []
  pub no_text : script.text ≡ []

runs_nothing : (before : Container) (ended : Status) (at : Streams)
    → IsTextAt ended before at.remaining [] [] [] [] → (ended ≡ status.Long → ⊥)
    → EarlyRun before ended at
runs_nothing before ended at is_text other = record {
  script = record {
    taken = [];
    lines = [];
    last = [];
    run = [];
    text = [];
    moves = record { consumed = Consumes-nil at.remaining; appended = Appends-nil at.written };
    split = AreLines-none [] refl;
    is_text = is_text;
    long = not_long ended [] (omega arith) other;
    bounded = omega arith;
  };
  no_line = refl;
  no_text = refl;
}

-- the store was not opened
pub runs_early : (before : Container) (ended : Status) (at : Streams) → EndsEarly ended
    → EarlyRun before ended at
runs_early before ended at early =
    runs_nothing before ended at (no_text_early ended before at.remaining early)
    (not_long_early ended early)

-- the words were not those of a run
pub runs_words : (before : Container) (at : Streams) → EarlyRun before status.Words at
runs_words before at = runs_nothing before status.Words at (refl, refl) (λ e. cc)

module _ (honest : Type 0) where
  -- ---- the run begins

  pub progress_begins : (before : Container) (old : Streams) (entry : History)
      → (honest → Rests entry (IsImageOf before))
      → Progress honest before old old entry entry before [] 0
  progress_begins before old entry rests = record {
    taken = [];
    lines = [];
    run = [];
    text = [];
    moves = record { consumed = Consumes-nil old.remaining; appended = Appends-nil old.written };
    split = AreLines-none [] refl;
    answers = Answers-nil before;
    stands = refl;
    counted = refl;
    disk = passes_nothing honest before entry rests;
    bounded = omega arith;
  }

  -- no memory was left for what the run needs before it takes a line
  pub ends_without_memory : (before : Container) (at : Streams) (entry : History)
      → (honest → Rests entry (IsImageOf before)) → Ends honest before status.Memory at at entry entry
  ends_without_memory before at entry rests = record {
    script = record {
      taken = [];
      lines = [];
      last = [];
      run = [];
      text = [];
      moves = record { consumed = Consumes-nil at.remaining; appended = Appends-nil at.written };
      split = AreLines-none [] refl;
      is_text = inl (BeginsToAnswer-all before [] [] [] (Answers-nil before));
      long = not_long status.Memory [] (omega arith) (λ e. cc);
      bounded = omega arith;
    };
    disk = breaks_off_behind honest before before [] [] entry entry refl (passes_nothing honest before entry rests);
  }

  module _ (before : Container) (old new : Streams) (entry here : History) (now : Container)
      (pending : List ℕ) (count : ℕ)
      (p : Progress honest before old new entry here now pending count) where
    -- a piece was read and served
    pub progress_goes_on : (remaining written : Option (List ℕ)) (exit : History) (steps : ℕ)
        (later : Container)
        (piece rest : List ℕ) (n : ℕ) → Consumes new.remaining remaining piece
        → length piece ≡ n
        → ServesLines honest now (pending ++ piece) later rest (outlets new.written here new.steps)
        (outlets written exit steps)
        → Progress honest before old (streams remaining written steps) entry exit later rest
        (count + n)
    progress_goes_on remaining written exit steps later piece rest n consumed size more = record {
      taken = p.taken ++ piece;
      lines = p.lines ++ more.lines;
      run = p.run ++ more.run;
      text = p.text ++ more.text;
      moves = record {
        consumed = Consumes-trans old.remaining new.remaining remaining p.taken piece p.moves.consumed
            consumed;
        appended = Appends-trans old.written new.written written p.text more.text p.moves.appended
            more.appended;
      };
      split = AreLines-more p.taken piece p.lines more.lines pending rest p.split more.split;
      answers = Answers-append before now p.lines more.lines p.run more.run p.text more.text p.answers
          p.stands more.answers;
      stands = stands-append before now later p.run more.run p.stands more.stands;
      counted = omega (arith, length-append p.taken piece, p.counted, size);
      disk = passes_on honest before now later p.run more.run entry here exit p.stands p.disk
          more.disk;
      bounded = bounded_append before now p.run more.run old.steps new.steps steps p.stands
          p.bounded
          more.bounded;
    }

    -- all that was taken is served
    all_behind : BreaksOff honest before p.run p.text entry here
    all_behind = breaks_off_behind honest before now p.run p.text entry here p.stands p.disk

    whole_len : length p.text ≤ length (text_of before p.run)
    whole_len = omega (arith, ap length p.answers.replies)

    -- a read failed
    pub ends_by_read_fault : (remaining : Option (List ℕ)) → Keeps new.remaining remaining
        → count ≤ most_input
        → Ends honest before status.ReadFault old
        (streams remaining new.written new.steps) entry here
    ends_by_read_fault remaining kept within = record {
      script = record {
        taken = p.taken;
        lines = p.lines;
        last = pending;
        run = p.run;
        text = p.text;
        moves =
            record {
              consumed = Consumes-kept old.remaining new.remaining remaining p.taken
                  p.moves.consumed kept;
              appended = p.moves.appended;
            };
        split = p.split;
        is_text = p.answers;
        long = not_long status.ReadFault p.taken (omega (arith, within, p.counted)) (λ e. cc);
        bounded = p.bounded;
      };
      disk = all_behind;
    }

    -- more was taken than one run takes
    pub ends_long : (remaining : Option (List ℕ)) (piece : List ℕ) (n : ℕ)
        → Consumes new.remaining remaining piece → length piece ≡ n
        → most_input < count + n → Ends honest before status.Long old
        (streams remaining new.written new.steps) entry here
    ends_long remaining piece n consumed size more =
        let later = there_are_lines (pending ++ piece) in
        let longer = begins_more before p.lines later.0 p.run p.text
        (BeginsToAnswer-all before p.lines p.run p.text p.answers) in
        record {
          script = record {
            taken = p.taken ++ piece;
            lines = p.lines ++ later.0;
            last = later.1;
            run = p.run ++ longer.0;
            text = p.text;
            moves =
                record {
                  consumed = Consumes-trans old.remaining new.remaining remaining p.taken piece
                      p.moves.consumed consumed;
                  appended = p.moves.appended;
                };
            split = AreLines-more p.taken piece p.lines later.0 pending later.1 p.split later.2;
            is_text = inl longer.1;
            long =
                ((λ _. omega (arith, more, size, p.counted, length-append p.taken piece)), (λ _. refl));
            bounded = bounded_longer before p.run longer.0 old.steps new.steps p.bounded;
          };
          disk = breaks_off_longer honest before p.run longer.0 p.text entry here whole_len all_behind;
        }

    -- the serving of a piece broke off
    record_of_break : (remaining written : Option (List ℕ)) (exit : History) (steps : ℕ)
        (piece : List ℕ) (n : ℕ) (ended : Status)
        → Consumes new.remaining remaining piece → length piece ≡ n
        → count + n ≤ most_input → (begun : BeginsLines honest now (pending ++ piece)
        (outlets new.written here new.steps) (outlets written exit steps))
        → (BeginsToAnswer before (p.lines ++ begun.lines) (p.run ++ begun.run) (p.text ++ begun.text)
        → IsTextAt ended before remaining (p.lines ++ begun.lines) begun.last (p.run ++ begun.run)
        (p.text ++ begun.text))
        → (ended ≡ status.Long → ⊥) → Ends honest before ended old
        (streams remaining written steps) entry exit
    record_of_break remaining written exit steps piece n ended consumed size within begun is_text
        other =
        record {
          script = record {
            taken = p.taken ++ piece;
            lines = p.lines ++ begun.lines;
            last = begun.last;
            run = p.run ++ begun.run;
            text = p.text ++ begun.text;
            moves = record {
              consumed = Consumes-trans old.remaining new.remaining remaining p.taken piece p.moves.consumed
                  consumed;
              appended = Appends-trans old.written new.written written p.text begun.text p.moves.appended
                  begun.appended;
            };
            split = AreLines-more p.taken piece p.lines begun.lines pending begun.last p.split begun.split;
            is_text =
                is_text
                (BeginsToAnswer-append before now p.lines begun.lines p.run begun.run p.text begun.text
                p.answers p.stands begun.answers);
            long = not_long ended (p.taken ++ piece)
                (omega (arith, within, size, p.counted, length-append p.taken piece)) other;
            bounded = bounded_append before now p.run begun.run old.steps new.steps steps p.stands
                p.bounded begun.bounded;
          };
          disk = breaks_off_after honest before now p.run begun.run p.text begun.text entry here exit
              p.stands p.answers.replies p.disk begun.disk;
        }

    pub ends_in_piece : (remaining written : Option (List ℕ)) (exit : History) (steps : ℕ)
        (piece : List ℕ) (n : ℕ)
        (ended : Status) → Consumes new.remaining remaining piece → length piece ≡ n
        → count + n ≤ most_input
        → BeginsLines honest now (pending ++ piece) (outlets new.written here new.steps)
        (outlets written exit steps)
        → BreaksOffWith ended
        → Ends honest before ended old (streams remaining written steps) entry exit
    ends_in_piece remaining written exit steps piece n status.WriteFault consumed size within begun
        is =
        record_of_break remaining written exit steps piece n status.WriteFault consumed size within
        begun
        (λ b. inl b) (λ e. cc)
    ends_in_piece remaining written exit steps piece n status.DiskFault consumed size within begun
        is =
        record_of_break remaining written exit steps piece n status.DiskFault consumed size within
        begun
        (λ b. inl b) (λ e. cc)
    ends_in_piece remaining written exit steps piece n status.Memory consumed size within begun is =
        record_of_break remaining written exit steps piece n status.Memory consumed size within
        begun
        (λ b. inl b) (λ e. cc)
    ends_in_piece remaining written exit steps piece n status.Done consumed size within begun is =
        absurd is
    ends_in_piece remaining written exit steps piece n status.Words consumed size within begun is =
        absurd is
    ends_in_piece remaining written exit steps piece n status.ReadFault consumed size within begun
        is =
        absurd is
    ends_in_piece remaining written exit steps piece n
        (status.Damaged extent at) consumed size within begun
        is = absurd is
    ends_in_piece remaining written exit steps piece n
        (status.Newer version) consumed size within begun is =
        absurd is
    ends_in_piece remaining written exit steps piece n status.Long consumed size within begun is =
        absurd is

    all_taken : (remaining : Option (List ℕ)) → Consumes new.remaining remaining []
        → Consumes old.remaining remaining p.taken
    all_taken remaining consumed =
        subst (Consumes old.remaining remaining) (append-nil p.taken)
        (Consumes-trans old.remaining new.remaining remaining p.taken [] p.moves.consumed consumed)

    -- the source has ended, and the last piece was served
    pub ends_done : (remaining written : Option (List ℕ)) (exit : History) (steps : ℕ)
        → Consumes new.remaining remaining [] → IsAtEnd remaining → count ≤ most_input
        → ServesLast honest now pending (outlets new.written here new.steps)
        (outlets written exit steps)
        → Ends honest before status.Done old (streams remaining written steps) entry exit
    ends_done remaining written exit steps consumed at_end within last = record {
      script = record {
        taken = p.taken;
        lines = p.lines;
        last = pending;
        run = p.run ++ last.run;
        text = p.text ++ last.text;
        moves = record {
          consumed = all_taken remaining consumed;
          appended =
              Appends-trans old.written new.written written p.text last.text p.moves.appended
              last.appended;
        };
        split = p.split;
        is_text = (
          at_end,
          Answers-append before now p.lines
              (last_line pending) p.run last.run p.text last.text p.answers p.stands last.answers,
        );
        long = not_long status.Done p.taken (omega (arith, within, p.counted)) (λ e. cc);
        bounded = bounded_append before now p.run last.run old.steps new.steps steps p.stands
            p.bounded
            last.bounded;
      };
      disk = breaks_off_after honest before now p.run last.run p.text last.text entry here exit
          p.stands p.answers.replies p.disk last.disk;
    }

    -- the source has ended, and the serving of the last piece broke off
    last_broke : (remaining written : Option (List ℕ)) (exit : History) (steps : ℕ) (ended : Status)
        → Consumes new.remaining remaining [] → IsAtEnd remaining → count ≤ most_input
        → (last : BeginsLast honest now pending (outlets new.written here new.steps)
        (outlets written exit steps))
        → (BeginsToAnswer before (p.lines ++ last_line pending) (p.run ++ last.run)
        (p.text ++ last.text)
        → IsTextAt ended before remaining p.lines pending (p.run ++ last.run) (p.text ++ last.text))
        → (ended ≡ status.Long → ⊥)
        → Ends honest before ended old (streams remaining written steps) entry exit
    last_broke remaining written exit steps ended consumed at_end within last is_text other =
        record {
          script = record {
            taken = p.taken;
            lines = p.lines;
            last = pending;
            run = p.run ++ last.run;
            text = p.text ++ last.text;
            moves = record {
              consumed = all_taken remaining consumed;
              appended =
                  Appends-trans old.written new.written written p.text last.text p.moves.appended
                  last.appended;
            };
            split = p.split;
            is_text = is_text (BeginsToAnswer-append before now p.lines
                (last_line pending) p.run last.run p.text last.text p.answers p.stands last.answers);
            long = not_long ended p.taken (omega (arith, within, p.counted)) other;
            bounded = bounded_append before now p.run last.run old.steps new.steps steps p.stands
                p.bounded
                last.bounded;
          };
          disk = breaks_off_after honest before now p.run last.run p.text last.text entry here exit
              p.stands p.answers.replies p.disk last.disk;
        }

    pub ends_at_end : (remaining written : Option (List ℕ)) (exit : History) (steps : ℕ)
        (ended : Status)
        → Consumes new.remaining remaining [] → IsAtEnd remaining → count ≤ most_input
        → (ended ≡ status.Done
        → ServesLast honest now pending (outlets new.written here new.steps)
        (outlets written exit steps))
        → (BreaksOffWith ended
        → BeginsLast honest now pending (outlets new.written here new.steps)
        (outlets written exit steps))
        → (ended ≡ status.Done) ⊎ BreaksOffWith ended
        → Ends honest before ended old (streams remaining written steps) entry exit
    ends_at_end remaining written exit steps status.Done consumed at_end within whole prefix only =
        ends_done remaining written exit steps consumed at_end within (whole refl)
    ends_at_end remaining written exit steps status.WriteFault consumed at_end within whole prefix
        only =
        last_broke remaining written exit steps status.WriteFault consumed at_end within (prefix tt)
        (λ b. inr (at_end, b)) (λ e. cc)
    ends_at_end remaining written exit steps status.DiskFault consumed at_end within whole prefix
        only =
        last_broke remaining written exit steps status.DiskFault consumed at_end within (prefix tt)
        (λ b. inr (at_end, b)) (λ e. cc)
    ends_at_end remaining written exit steps status.Memory consumed at_end within whole prefix only
        =
        last_broke remaining written exit steps status.Memory consumed at_end within (prefix tt)
        (λ b. inr (at_end, b)) (λ e. cc)
    ends_at_end remaining written exit steps status.Words consumed at_end within whole prefix
        (inl is) =
        absurd cc
    ends_at_end remaining written exit steps status.Words consumed at_end within whole prefix
        (inr is) =
        absurd is
    ends_at_end remaining written exit steps status.ReadFault consumed at_end within whole prefix
        (inl is) =
        absurd cc
    ends_at_end remaining written exit steps status.ReadFault consumed at_end within whole prefix
        (inr is) =
        absurd is
    ends_at_end remaining written exit steps
        (status.Damaged extent at) consumed at_end within whole prefix
        (inl is) = absurd cc
    ends_at_end remaining written exit steps
        (status.Damaged extent at) consumed at_end within whole prefix
        (inr is) = absurd is
    ends_at_end remaining written exit steps
        (status.Newer version) consumed at_end within whole prefix
        (inl is) = absurd cc
    ends_at_end remaining written exit steps
        (status.Newer version) consumed at_end within whole prefix
        (inr is) = absurd is
    ends_at_end remaining written exit steps status.Long consumed at_end within whole prefix
        (inl is) =
        absurd cc
    ends_at_end remaining written exit steps status.Long consumed at_end within whole prefix
        (inr is) =
        absurd is

-- ---- the statuses of a run whose disk, source and sink did not fail

pub complete_of : (DiskRose SourceRose SinkRose : Type 0) (ended : Status)
    → (ended ≡ status.DiskFault → DiskRose) → (ended ≡ status.ReadFault → SourceRose)
    → (ended ≡ status.WriteFault → SinkRose) → IsOfServing ended
    → (DiskRose → ⊥) → (SourceRose → ⊥) → (SinkRose → ⊥)
    → (ended ≡ status.Done) ⊎ (ended ≡ status.Memory) ⊎ (ended ≡ status.Long)
complete_of D R K status.Done disk read write of no_disk no_read no_write = inl refl
complete_of D R K status.Words disk read write of no_disk no_read no_write = absurd of
complete_of D R K status.DiskFault disk read write of no_disk no_read no_write =
    absurd (no_disk (disk refl))
complete_of D R K status.ReadFault disk read write of no_disk no_read no_write =
    absurd (no_read (read refl))
complete_of D R K status.WriteFault disk read write of no_disk no_read no_write =
    absurd (no_write (write refl))
complete_of D R K (status.Damaged extent at) disk read write of no_disk no_read no_write = absurd of
complete_of D R K (status.Newer version) disk read write of no_disk no_read no_write = absurd of
complete_of D R K status.Memory disk read write of no_disk no_read no_write = inr (inl refl)
complete_of D R K status.Long disk read write of no_disk no_read no_write = inr (inr refl)

-- ---- the statuses of serving

pub last_serving : (ended : Status) → (ended ≡ status.Done) ⊎ BreaksOffWith ended → IsOfServing ended
last_serving status.Done only = tt
last_serving status.DiskFault only = tt
last_serving status.WriteFault only = tt
last_serving status.Memory only = tt
last_serving status.ReadFault only = tt
last_serving status.Long only = tt
last_serving status.Words (inl is) = absurd cc
last_serving status.Words (inr breaks) = breaks
last_serving (status.Damaged extent at) (inl is) = absurd cc
last_serving (status.Damaged extent at) (inr breaks) = breaks
last_serving (status.Newer version) (inl is) = absurd cc
last_serving (status.Newer version) (inr breaks) = breaks

ends_of : (honest : Bool) (ended : Status) (history : History)
    → (ended ≡ status.Done) ⊎ StopsBy honest ended history → EndsServing honest ended history
ends_of honest status.Done history only = tt
ends_of honest status.DiskFault history only = tt
ends_of honest status.WriteFault history only = tt
ends_of honest status.Memory history only = tt
ends_of honest status.ReadFault history only = tt
ends_of honest status.Long history only = tt
ends_of honest status.Words history (inl is) = absurd cc
ends_of honest status.Words history (inr stops) = stops
ends_of honest (status.Damaged extent at) history (inl is) = absurd cc
ends_of honest (status.Damaged extent at) history (inr stops) = stops
ends_of honest (status.Newer version) history (inl is) = absurd cc
ends_of honest (status.Newer version) history (inr stops) = stops

-- told of the same honesty
pub last_ends : (now then : Bool) (ended : Status) (history : History) → now ≡ then
    → (ended ≡ status.Done) ⊎ StopsBy now ended history → EndsServing then ended history
last_ends now then ended history same only =
    subst (λ h. EndsServing h ended history) same (ends_of now ended history only)
