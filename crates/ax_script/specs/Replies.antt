-- What is written for what an engine answers to a line.
use Rattle.std.specs.Prelude.{◌≡◌, ◌⊎◌, ℕ, Bool, true, false, List, [], ◌∷◌, ◌++◌, Option, Result, Ok, Err}
use Rattle.std.specs.Global.{Vec}
use Rattle.std.specs.Io.KnownBytes.{Appends}
use Rattle.ax_base.specs.Appends.{AppendsPrefix}
use Rattle.ax_disk.specs.model.Moments.{History}
use Rattle.ax_disk.specs.model.Stays.{Turns}
use Rattle.ax_container.specs.Container.{Container}
use Rattle.ax_engine.specs.Course.{Course, Standing}
use Rattle.ax_engine.specs.Engine.{HoldsOver}
use Rattle.ax_engine.specs.Reading.{text_of_reply}
use Rattle.ax_engine.specs.Replies.{IsReply}
use Rattle.ax_documents.specs.Opening.{IsImageOf}
use Rattle.ax_engine.specs.declared.engine.Engine.{Engine}
use Rattle.ax_engine.specs.declared.engine.Fault.{Fault}
use Rattle.ax_engine.specs.declared.engine.Fault.TheVariants as fault
use Rattle.ax_engine.specs.declared.reply.Reply.{Reply}
use Rattle.ax_engine.specs.declared.reply.Reply.TheVariants as given
use Rattle.ax_lines.specs.Lines.{is_judged_at_once, line_of}
use Rattle.ax_lines.specs.declared.line.Line.{Line}
use Rattle.ax_lines.specs.declared.line.LineFault.{LineFault}
use Rattle.ax_lines.specs.declared.line.LineFault.TheVariants as line_fault
use Rattle.ax_lines.specs.declared.refusal.Refusal.{Refusal}
use Rattle.ax_lines.specs.declared.refusal.Refusal.TheVariants as refusal
use Rattle.ax_tree.specs.declared.out_of_memory.Memory.{Memory}
use Rattle.ax_machine.specs.Reply as reply
use Rattle.ax_machine.specs.ReplyTexts.{reply_text}
use Rattle.ax_machine.specs.Run.{Outcome, after_line, reply_to}
use Rattle.ax_machine.specs.Step.{step}
use Rattle.ax_script.specs.declared.status.Status.{Status}
use Rattle.ax_script.specs.declared.status.Status.TheVariants as status

-- the text of the reply is made in memory: that of rows
abbrev pub IsMadeInMemory : Reply → Type 0
IsMadeInMemory given.Ok = ⊥
IsMadeInMemory (given.Doc text) = ⊥
IsMadeInMemory (given.Rows rows) = Unit {0}
IsMadeInMemory (given.Refused why) = ⊥

-- The text of the reply; of one that is made in memory also that of out of memory, where none is left for it.
abbrev pub IsTextOf : Reply → List ℕ → Type 0
IsTextOf made text =
    (text ≡ text_of_reply made) ⊎ (IsMadeInMemory made × (text ≡ reply_text reply.out_of_memory))

-- such a text was written whole; none is where the engine answers a fault
abbrev pub WritesWhole : Result Reply Fault → Option (List ℕ) → Option (List ℕ) → Type 0
WritesWhole (Ok made) old new = (text : List ℕ) × IsTextOf made text × Appends old new text
WritesWhole (Err why) old new = ⊥

-- a prefix of it was written
abbrev pub WritesPart : Result Reply Fault → Option (List ℕ) → Option (List ℕ) → Type 0
WritesPart (Ok made) old new = (text : List ℕ) × IsTextOf made text × AppendsPrefix old new text
WritesPart (Err why) old new = old ≡ new

-- what the answer to a line's bytes is
abbrev pub TellsLine : {C : Type 0} → Type 0 → Container → List ℕ → Result Reply Fault → Engine C → History → History → Type 0
TellsLine honest before line (Ok made) engine old new =
    (outcome : Outcome) × IsReply made (reply_to before line outcome)
    × HoldsOver engine new (after_line before line outcome)
    × (honest → Turns old new (IsImageOf before) (IsImageOf (after_line before line outcome)))
TellsLine honest before line (Err fault.Disk) engine old new =
    honest → Turns old new (IsImageOf before) (IsImageOf (step before line).0)
TellsLine honest before line (Err (fault.Damaged extent at)) engine old new = ⊥
TellsLine honest before line (Err fault.Sink) engine old new = ⊥

-- a text that was made, or that of out of memory
abbrev pub text_or_memory : Result (Vec ℕ) Memory → List ℕ
text_or_memory (Ok text) = text.items
text_or_memory (Err memory) = reply_text reply.out_of_memory

-- the status of an engine's fault
abbrev pub fault_status : Fault → Status
fault_status fault.Disk = status.DiskFault
fault_status (fault.Damaged extent at) = status.Damaged extent at
fault_status fault.Sink = status.WriteFault

-- the same of a READ line that was answered to the sink
abbrev pub read_status : Result (Unit {0}) Fault → Result (Unit {0}) Status
read_status (Ok done) = Ok done
read_status (Err why) = Err (fault_status why)

-- the refusal of a line that was not read: its own, or that memory ran out
abbrev pub unread_refusal : LineFault → Refusal
unread_refusal (line_fault.Refused why) = why
unread_refusal line_fault.Memory = refusal.Memory

-- ---- what a line is answered, whatever the store holds

-- What a line of that meaning is answered by an engine, from what this has when the line comes to what it has then: one that was
-- read by its course, or that memory ran out, which changes nothing; one that is refused that refusal, or that memory ran out,
-- unless it is judged at once, and that changes nothing.
abbrev pub IsAnswerTo : Bool → Bool → Result Line Refusal → Reply → Standing → Standing → Type 0
IsAnswerTo honest at_once (Ok asked) made was now =
    Course honest asked made was now ⊎ ((made ≡ given.Refused refusal.Memory) × (now ≡ was))
IsAnswerTo honest true (Err why) made was now = (made ≡ given.Refused why) × (now ≡ was)
IsAnswerTo honest false (Err why) made was now =
    ((made ≡ given.Refused why) ⊎ (made ≡ given.Refused refusal.Memory)) × (now ≡ was)

-- what the bytes of a line are answered
abbrev pub IsAnswer : Bool → List ℕ → Reply → Standing → Standing → Type 0
IsAnswer honest bytes made was now = IsAnswerTo honest (is_judged_at_once bytes) (line_of bytes) made was now

-- the text is that of a reply which is the answer to the bytes of a line
abbrev pub IsTextTo : Bool → List ℕ → List ℕ → Standing → Standing → Type 0
IsTextTo honest bytes text was now = (made : Reply) × IsAnswer honest bytes made was now × IsTextOf made text

-- The text has one such text for each of the lines, in their order, and no more: each line finds what the one before it left.
abbrev pub AreTextsTo : Bool → List (List ℕ) → List ℕ → Standing → Standing → Type 0
AreTextsTo honest [] text was now = (text ≡ []) × (now ≡ was)
AreTextsTo honest (line ∷ lines) text was now =
    (first : List ℕ) × (rest : List ℕ) × (between : Standing) × IsTextTo honest line first was between
    × AreTextsTo honest lines rest between now × (text ≡ first ++ rest)
