-- What is written for a READ line: the text of its reply, or a prefix of it where the sink failed.
use Rattle.std.specs.Prelude.{◌≡◌, ◌≢◌, ℕ, List, ◌++◌, Option, None, Some, Result, Ok, Err}
use Rattle.std.specs.Io.KnownBytes.{Appends}
use Rattle.ax_base.specs.Appends.{AppendsPrefix}
use Rattle.ax_machine.specs.Reply as reply
use Rattle.ax_machine.specs.ReplyTexts.{doc_text, end_text, refusal_text, reply_text}
use Rattle.ax_engine.specs.declared.engine.Fault.{Fault}
use Rattle.ax_engine.specs.declared.engine.Fault.TheVariants as fault
use Rattle.ax_engine.specs.declared.reply.Reply.{Reply}
use Rattle.ax_engine.specs.declared.reply.Reply.TheVariants as given

-- the text of a reply: of a document its line; of rows their lines, and behind these how many there are
abbrev pub text_of_reply : Reply → List ℕ
text_of_reply given.Ok = reply_text reply.Ok
text_of_reply (given.Doc text) = doc_text text.items
text_of_reply (given.Rows rows) = rows.lines.items ++ end_text reply.End rows.count
text_of_reply (given.Refused why) = refusal_text why

-- What was written of an answer: the text of its reply, whole, or a prefix of it where the sink failed. Of a fault, which is
-- none of a sink, nothing was written, and it is what is told.
abbrev pub IsWritten : Result Reply Fault → Result (Unit {0}) Fault → Option (List ℕ) → Option (List ℕ) → Type 0
IsWritten (Ok made) (Ok done) old new = Appends old new (text_of_reply made)
IsWritten (Ok made) (Err fault.Sink) old new = AppendsPrefix old new (text_of_reply made)
IsWritten (Ok made) (Err fault.Disk) old new = ⊥
IsWritten (Ok made) (Err (fault.Damaged extent at)) old new = ⊥
IsWritten (Err why) told old new = (told ≡ Err why) × (why ≢ fault.Sink) × (new ≡ old)

-- an answer of which this is so was written
abbrev pub Writes : (Result Reply Fault → Type 0) → Result (Unit {0}) Fault → Option (List ℕ) → Option (List ℕ) → Type 0
Writes Is told old new = (answer : Result Reply Fault) × Is answer × IsWritten answer told old new

-- the fault that an engine keeps of what it told: none where the sink failed, since its documents are as before
abbrev pub kept_of : Result (Unit {0}) Fault → Option Fault
kept_of (Ok done) = None
kept_of (Err fault.Disk) = Some fault.Disk
kept_of (Err (fault.Damaged extent at)) = Some (fault.Damaged extent at)
kept_of (Err fault.Sink) = None
