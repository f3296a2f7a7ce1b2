-- What the answer to a line and the writing of its reply make together.
use Rattle.std.proofs.Common.{◌≡◌, inl, inr, ℕ, Bool, ◌+◌, ◌≤◌, List, Option, Some, None, Result, Ok, Err, OnOk, OnErr}
use Rattle.std.proofs.Common.{◌++◌, refl, sym, ap, subst, ◌∙◌}
use Rattle.std.specs.Prelude.{◌≢◌, IfErr, IsTrue}
use Rattle.ax_cache.specs.Pages.{CachedPages}
use Rattle.ax_disk.specs.model.Moments.{History}
use Rattle.ax_disk.specs.model.Stays.{Turns}
use Rattle.ax_container.specs.Container.{Container}
use Rattle.ax_container.specs.Writes.{WriteRefusal, exchanged, inserted, removed, upserted}
use Rattle.ax_tree.specs.Document.{document_id}
use Rattle.ax_tree.specs.declared.tree.Tree.{Tree}
use Rattle.ax_lines.specs.declared.line.Line.{Line}
use Rattle.ax_lines.specs.declared.line.Line.TheVariants as line
use Rattle.ax_lines.specs.declared.line.LineFault.{LineFault}
use Rattle.ax_lines.specs.declared.line.LineFault.TheVariants as line_fault
use Rattle.ax_lines.specs.declared.refusal.Refusal.{Refusal}
use Rattle.ax_lines.specs.Answers.{IsRefusedBy}
use Rattle.ax_lines.specs.Lines.{line_of}
use Rattle.ax_engine.specs.Damage.{Meets}
use Rattle.ax_engine.specs.Engine.{Applies, HoldsOver, Works, made_by}
use Rattle.ax_engine.specs.Reading.{text_of_reply}
use Rattle.ax_engine.specs.Replies.{IsReply}
use Rattle.ax_documents.specs.Opening.{IsImageOf}
use Rattle.ax_engine.specs.declared.engine.Engine.{Engine}
use Rattle.ax_engine.specs.declared.engine.Fault.{Fault}
use Rattle.ax_engine.specs.declared.engine.Fault.TheVariants as fault
use Rattle.ax_engine.specs.declared.reply.Reply.{Reply}
use Rattle.ax_engine.specs.declared.reply.Reply.TheVariants as given
use Rattle.ax_machine.specs.Needs.{most_steps}
use Rattle.ax_machine.specs.Reply as reply
use Rattle.ax_machine.specs.ReplyTexts.{end_text, reply_text}
use Rattle.ax_machine.specs.Run.{Outcome, Served, OutOfMemory, after_line, reply_to}
use Rattle.ax_machine.specs.Step.{served, step, write_by, written}
use Rattle.ax_script.specs.declared.status.Status.{Status}
use Rattle.ax_script.specs.declared.status.Status.TheVariants as status
use Rattle.ax_script.specs.Progress.{Serves, BeginsToServe, BreaksOffWith, IsLineFault, StopsBy, outlets}
use Rattle.ax_script.specs.Replies.{IsMadeInMemory, IsTextOf, TellsLine, WritesPart, WritesWhole, unread_refusal}
use Rattle.ax_script.proofs.Outcomes.{OnOk-map, OnErr-map}
use Rattle.ax_script.proofs.Written.{serves_by, begins_by, begins_without}

-- ---- a reply that is not the one to a write that was made changes nothing

unwritten : (before : Container) (end : Result Container WriteRefusal) → (written before end).1 ≢ reply.Ok
    → (written before end).0 ≡ before
unwritten before (Ok after) not = absurd (not refl)
unwritten before (Err why) not = refl

unwritten_by : (write : List ℕ → Tree → Container → Result Container WriteRefusal) (id : Option (List ℕ))
    (tree : Tree) (before : Container) → (write_by write id tree before).1 ≢ reply.Ok
    → (write_by write id tree before).0 ≡ before
unwritten_by write (Some id) tree before not = unwritten before (write id tree before) not
unwritten_by write None tree before not = refl

unserved : (before : Container) (meant : Result Line Refusal) → (served before meant).1 ≢ reply.Ok
    → (served before meant).0 ≡ before
unserved before (Ok (line.Create tree)) not = unwritten_by inserted (document_id tree) tree before not
unserved before (Ok (line.Upsert tree)) not = unwritten_by upserted (document_id tree) tree before not
unserved before (Ok (line.Replace tree)) not = unwritten_by exchanged (document_id tree) tree before not
unserved before (Ok (line.Delete id)) not = unwritten before (removed id before) not
unserved before (Ok (line.Read id)) not = refl
unserved before (Ok (line.Query body)) not = refl
unserved before (Err why) not = refl

unchanged : (before : Container) (line : List ℕ) (outcome : Outcome)
    → reply_to before line outcome ≢ reply.Ok → after_line before line outcome ≡ before
unchanged before line Served not = unserved before (line_of line) not
unchanged before line OutOfMemory not = refl

-- a reply that is made in memory is not the one to a write that was made
not_ok : (made : Reply) (meant : reply.Reply) → IsReply made meant → IsMadeInMemory made → meant ≢ reply.Ok
not_ok given.Ok meant is in_memory = absurd in_memory
not_ok (given.Doc text) meant is in_memory = absurd in_memory
not_ok (given.Rows rows) meant is in_memory = λ same. cc
not_ok (given.Refused why) meant is in_memory = absurd in_memory

-- ---- what is written for a line

-- the text of a reply is that of the one which it is
text_meant : (made : Reply) (meant : reply.Reply) → IsReply made meant → text_of_reply made ≡ reply_text meant
text_meant given.Ok meant is = sym (ap reply_text is)
text_meant (given.Doc text) meant is = sym (ap reply_text is)
text_meant (given.Rows rows) meant is =
    (λ i. is.1.lines i ++ end_text reply.End (is.1.count i)) ∙ sym (ap reply_text is.2)
text_meant (given.Refused why) meant is = sym (ap reply_text is)

module _ {C : Type 0} (pages : C → CachedPages) (trusted : Bool) (before : Container) (line : List ℕ) (engine : Engine C)
    (written now : Option (List ℕ)) (old new : History) (steps later : ℕ) where
  abbrev honest : Type 0
  honest = IsTrue trusted

  by_text : (made : Reply) (text : List ℕ) → IsTextOf made text
      → TellsLine honest before line (Ok made) engine old new
      → (outcome : Outcome) × (text ≡ reply_text (reply_to before line outcome))
      × HoldsOver engine new (after_line before line outcome)
      × (honest → Turns old new (IsImageOf before) (IsImageOf (after_line before line outcome)))
  by_text made text (inl whole) told =
      (told.0, whole ∙ text_meant made (reply_to before line told.0) told.1, told.2, told.3)
  by_text made text (inr short) told =
      let same = unchanged before line told.0 (not_ok made (reply_to before line told.0) told.1 short.0) in (
        OutOfMemory,
        short.1,
        subst (HoldsOver engine new) same told.2,
        subst (λ (after : Container). honest → Turns old new (IsImageOf before) (IsImageOf after)) same told.3,
      )

  pub whole_of : (result : Result (Unit {0}) Status) (answered : Result Reply Fault)
      → TellsLine honest before line answered engine old new
      → Works pages trusted engine new → later ≤ steps + most_steps before line
      → OnOk result (WritesWhole answered written now)
      → OnOk result ((after : Container) × HoldsOver engine new after
      × Serves honest before line after (outlets written old steps) (outlets now new later))
  whole_of result (Ok made) told works bounded whole = OnOk-map result
      (λ added. (let by = by_text made added.0 added.1 told in (
        after_line before line by.0,
        by.2,
        serves_by pages trusted engine before line by.0 (outlets written old steps) (outlets now new later)
            added.0 by.1 added.2 works by.2 by.3 bounded,
      ))) whole
  whole_of result (Err fault.Disk) told works bounded whole = OnOk-map result (λ none. absurd none) whole
  whole_of result (Err (fault.Damaged extent at)) told works bounded whole = absurd told
  whole_of result (Err fault.Sink) told works bounded whole = absurd told

  pub part_of : (result : Result (Unit {0}) Status) (answered : Result Reply Fault)
      → TellsLine honest before line answered engine old new
      → Works pages trusted engine new → later ≤ steps + most_steps before line
      → OnErr result (WritesPart answered written now)
      → OnErr result (BeginsToServe honest before line (outlets written old steps) (outlets now new later))
  part_of result (Ok made) told works bounded part = OnErr-map result
      (λ added. (let by = by_text made added.0 added.1 told in
      begins_by pages trusted engine before line by.0 (outlets written old steps) (outlets now new later)
      added.0 by.1 added.2 works by.2 by.3 bounded)) part
  part_of result (Err fault.Disk) told works bounded part = OnErr-map result
      (λ same. subst (λ w. BeginsToServe honest before line (outlets written old steps)
      (outlets w new later)) same
      (begins_without honest before line Served written old new steps later told bounded)) part
  part_of result (Err (fault.Damaged extent at)) told works bounded part = absurd told
  part_of result (Err fault.Sink) told works bounded part = absurd told

-- ---- the answer to a line

-- what the engine tells of a line that was read is what it tells of its bytes
pub tells_applied : {C : Type 0} (honest : Type 0) (before : Container) (bytes : List ℕ) (asked : Line)
    (engine : Engine C) (old new : History) (result : Result Reply Fault) → line_of bytes ≡ Ok asked
    → Applies honest before asked result engine old new → TellsLine honest before bytes result engine old new
tells_applied honest before bytes asked engine old new (Ok made) read told =
    by told.0 told.1 told.2 told.3
  where
    is : step before bytes ≡ served before (Ok asked)
    is = ap (served before) read

    by : (outcome : Outcome) → IsReply made (made_by before asked outcome).1
        → HoldsOver engine new (made_by before asked outcome).0
        → (honest → Turns old new (IsImageOf before) (IsImageOf (made_by before asked outcome).0))
        → TellsLine honest before bytes (Ok made) engine old new
    by Served reply_is holds turns = (
      Served,
      subst (λ (m : Container × reply.Reply). IsReply made m.1) (sym is) reply_is,
      subst (λ (m : Container × reply.Reply). HoldsOver engine new m.0) (sym is) holds,
      subst (λ (m : Container × reply.Reply). honest → Turns old new (IsImageOf before) (IsImageOf m.0)) (sym is) turns,
    )
    by OutOfMemory reply_is holds turns = (OutOfMemory, reply_is, holds, turns)
tells_applied honest before bytes asked engine old new (Err fault.Disk) read told =
    subst (λ (m : Container × reply.Reply). honest → Turns old new (IsImageOf before) (IsImageOf m.0))
    (sym (ap (served before) read)) told
tells_applied honest before bytes asked engine old new (Err (fault.Damaged extent at)) read told = absurd told
tells_applied honest before bytes asked engine old new (Err fault.Sink) read told = absurd told

tells_refused : {C : Type 0} (honest : Type 0) (before : Container) (bytes : List ℕ) (why : Refusal)
    (engine : Engine C) (old new : History) → line_of bytes ≡ Err why → HoldsOver engine new before
    → (honest → Turns old new (IsImageOf before) (IsImageOf before))
    → TellsLine honest before bytes (Ok (given.Refused why)) engine old new
tells_refused honest before bytes why engine old new read holds turns =
    let is : step before bytes ≡ (before, reply.Refused why) = ap (served before) read in (
      Served,
      ap (λ (m : Container × reply.Reply). m.1) is,
      subst (λ (m : Container × reply.Reply). HoldsOver engine new m.0) (sym is) holds,
      subst (λ (m : Container × reply.Reply). honest → Turns old new (IsImageOf before) (IsImageOf m.0)) (sym is) turns,
    )

-- a line that was not read changes nothing
pub tells_unread : {C : Type 0} (honest : Type 0) (before : Container) (bytes : List ℕ) (fault : LineFault)
    (engine : Engine C) (old new : History) → IsRefusedBy fault (line_of bytes) → HoldsOver engine new before
    → (honest → Turns old new (IsImageOf before) (IsImageOf before))
    → TellsLine honest before bytes (Ok (given.Refused (unread_refusal fault))) engine old new
tells_unread honest before bytes (line_fault.Refused why) engine old new is holds turns =
    tells_refused honest before bytes why engine old new is holds turns
tells_unread honest before bytes line_fault.Memory engine old new is holds turns = (OutOfMemory, refl, holds, turns)

-- ---- the status of a line that was not served

-- over documents that are those of a container none is damaged
pub sound_of : {C : Type 0} (honest : Type 0) (before : Container) (line : List ℕ) (engine : Engine C) (old new : History)
    (result : Result (Unit {0}) Status) (answered : Result Reply Fault)
    → TellsLine honest before line answered engine old new → IfErr result IsLineFault
    → ((extent at : ℕ) → result ≡ Err (status.Damaged extent at) → answered ≡ Err (fault.Damaged extent at))
    → IfErr result BreaksOffWith
sound_of honest before line engine old new (Ok done) answered told only damage = tt
sound_of honest before line engine old new (Err status.WriteFault) answered told only damage = tt
sound_of honest before line engine old new (Err status.DiskFault) answered told only damage = tt
sound_of honest before line engine old new (Err (status.Damaged extent at)) answered told only damage =
    subst (λ (a : Result Reply Fault). TellsLine honest before line a engine old new) (damage extent at refl) told
sound_of honest before line engine old new (Err status.Done) answered told only damage = only
sound_of honest before line engine old new (Err status.Words) answered told only damage = only
sound_of honest before line engine old new (Err status.ReadFault) answered told only damage = only
sound_of honest before line engine old new (Err (status.Newer version)) answered told only damage = only
sound_of honest before line engine old new (Err status.Memory) answered told only damage = tt
sound_of honest before line engine old new (Err status.Long) answered told only damage = only

-- one that is damaged is so at its place
pub stops_of : (honest : Bool) (new : History) (result : Result (Unit {0}) Status) (answered : Result Reply Fault)
    → IfErr result IsLineFault
    → ((extent at : ℕ) → result ≡ Err (status.Damaged extent at) → answered ≡ Err (fault.Damaged extent at))
    → (IsTrue honest → IfErr answered (λ why. Meets why new.reads))
    → IfErr result (λ why. StopsBy honest why new)
stops_of honest new (Ok done) answered only damage met = tt
stops_of honest new (Err status.WriteFault) answered only damage met = tt
stops_of honest new (Err status.DiskFault) answered only damage met = tt
stops_of honest new (Err (status.Damaged extent at)) answered only damage met = λ h.
    subst (λ (a : Result Reply Fault). IfErr a (λ why. Meets why new.reads)) (damage extent at refl) (met h)
stops_of honest new (Err status.Done) answered only damage met = only
stops_of honest new (Err status.Words) answered only damage met = only
stops_of honest new (Err status.ReadFault) answered only damage met = only
stops_of honest new (Err (status.Newer version)) answered only damage met = only
stops_of honest new (Err status.Memory) answered only damage met = tt
stops_of honest new (Err status.Long) answered only damage met = only
