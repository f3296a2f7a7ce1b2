-- An engine at work: which container it has, and what it answers to a line.
use Rattle.std.specs.Prelude.{◌≡◌, ◌≢◌, ℕ, List, Bool, Option, None, Some, Result, Ok, Err, if◌then◌else◌}
use Rattle.ax_cache.specs.Pages.{CachedPages}
use Rattle.ax_disk.specs.model.Calls.{Idles}
use Rattle.ax_disk.specs.model.Image.{Image}
use Rattle.ax_disk.specs.model.Moments.{History}
use Rattle.ax_disk.specs.model.Stays.{Rests, Turns}
use Rattle.ax_faults.specs.Faults.{Rose}
use Rattle.ax_container.specs.Container.{Container, contains}
use Rattle.ax_container.specs.Writes.{WriteRefusal, Absent, inserted, exchanged, removed, upserted}
use Rattle.ax_image.specs.Readable.{SaysReadable}
use Rattle.ax_image_pairs.specs.Indexed.{HasAll}
use Rattle.ax_lines.specs.declared.line.Line.{Line}
use Rattle.ax_lines.specs.declared.line.Line.TheVariants as line
use Rattle.ax_machine.specs.Reply as reply
use Rattle.ax_machine.specs.Run.{Outcome, Served, OutOfMemory}
use Rattle.ax_machine.specs.Step.{served}
use Rattle.ax_tree.specs.declared.tree.Tree.{Tree}
use Rattle.ax_tree.specs.Document.{document_id}
use Rattle.ax_write.specs.Writes.{IsOfCreation, IsOfHeld, IsOfUpsert}
use Rattle.ax_write.specs.declared.fault.WriteFault.{WriteFault}
use Rattle.ax_documents.specs.Documents.{DocumentsHold, DocumentsWork}
use Rattle.ax_documents.specs.Opening.{IsImageOf}
use Rattle.ax_documents.specs.declared.documents.Documents.{Documents}
use Rattle.ax_engine.specs.Replies.{IsReply}
use Rattle.ax_engine.specs.declared.engine.Engine.{Engine}
use Rattle.ax_engine.specs.declared.engine.Fault.{Fault}
use Rattle.ax_engine.specs.declared.engine.Fault.TheVariants as fault
use Rattle.ax_engine.specs.declared.reply.Reply.{Reply}
use Rattle.ax_engine.specs.declared.reply.Reply.TheVariants as given

-- it has answered no fault, and its documents are those of the container, and so is their index
pub record Holds {C : Type 0} (engine : Engine C) (container : Container) : Type 0 where
  pub unfaulted : engine.fault ≡ None
  pub documents : DocumentsHold engine.documents container

-- and all that can be read which an image tells that a crash may leave
pub record HoldsOver {C : Type 0} (engine : Engine C) (history : History) (container : Container) : Type 0 where
  pub holds : Holds engine container
  pub readable : Rests history SaysReadable

-- Until it answers a fault its documents work: the store has not failed, and agrees with the disk where that is honest. The
-- fault of a sink is none that it keeps.
pub record Works {C : Type 0} (pages : C → CachedPages) (honest : Bool) (engine : Engine C) (history : History) : Type 0 where
  pub documents : engine.fault ≡ None → DocumentsWork pages honest engine.documents history
  pub no_sink : engine.fault ≢ Some fault.Sink

-- the container after a line that was read, and its reply: by its step, or unchanged for want of memory
abbrev pub made_by : Container → Line → Outcome → Container × reply.Reply
made_by before line Served = served before (Ok line)
made_by before line OutOfMemory = (before, reply.out_of_memory)

-- What a line is answered: its step, or that memory ran out, which changes nothing; or that the disk
-- failed while the step was made. Of documents that are those of a container no text is damaged.
abbrev pub TellsOf : Type 0 → Container → Line → Result Reply Fault → (Container → Type 0)
    → (Container → Image → Type 0) → History → History → Type 0
TellsOf honest before line (Ok given) Has Leaves old new =
    (outcome : Outcome) × IsReply given (made_by before line outcome).1
    × Has (made_by before line outcome).0
    × (honest → Turns old new (Leaves before) (Leaves (made_by before line outcome).0))
TellsOf honest before line (Err fault.Disk) Has Leaves old new =
    honest → Turns old new (Leaves before) (Leaves (served before (Ok line)).0)
TellsOf honest before line (Err (fault.Damaged extent at)) Has Leaves old new = ⊥
TellsOf honest before line (Err fault.Sink) Has Leaves old new = ⊥

-- the same of documents
abbrev pub Tells : {C : Type 0} → Type 0 → Container → Line → Result Reply Fault → Documents C → History → History → Type 0
Tells honest before line result held old new =
    TellsOf honest before line result (DocumentsHold held) HasAll old new

-- the same of an engine, whose images can be read
abbrev pub Applies : {C : Type 0} → Type 0 → Container → Line → Result Reply Fault → Engine C → History → History → Type 0
Applies honest before line result engine old new =
    TellsOf honest before line result (HoldsOver engine new) IsImageOf old new

-- ---- what a line makes of the container, or why the container refuses it

abbrev pub by_document : (List ℕ → Tree → Container → Result Container WriteRefusal) → Option (List ℕ) → Tree → Container
    → Result Container WriteRefusal
by_document write (Some id) tree before = write id tree before
by_document write None tree before = Err Absent

-- A read is refused where the container has no document of its id, and else it makes nothing of it; a query makes
-- nothing. No line asks for a write of a tree that has no id.
abbrev pub made_of : Line → Container → Result Container WriteRefusal
made_of (line.Create tree) before = by_document inserted (document_id tree) tree before
made_of (line.Upsert tree) before = by_document upserted (document_id tree) tree before
made_of (line.Replace tree) before = by_document exchanged (document_id tree) tree before
made_of (line.Delete id) before = removed id before
made_of (line.Read id) before = if contains id before then Ok before else Err Absent
made_of (line.Query body) before = Ok before

-- ---- what lines do

-- it is a write of a document
abbrev pub IsWrite : Line → Type 0
IsWrite (line.Create tree) = Unit {0}
IsWrite (line.Upsert tree) = Unit {0}
IsWrite (line.Replace tree) = Unit {0}
IsWrite (line.Delete id) = Unit {0}
IsWrite (line.Read id) = ⊥
IsWrite (line.Query body) = ⊥

-- the faults of a write that a line may have
abbrev pub MayFail : Line → WriteFault → Type 0
MayFail (line.Create tree) why = IsOfCreation why
MayFail (line.Upsert tree) why = IsOfUpsert why
MayFail (line.Replace tree) why = IsOfHeld why
MayFail (line.Delete id) why = IsOfHeld why
MayFail (line.Read id) why = ⊥
MayFail (line.Query body) why = ⊥

-- unless a write was made, or the disk failed, its lists are as they were
abbrev pub IdlesUnlessDone : Result Reply Fault → History → History → Type 0
IdlesUnlessDone (Ok given.Ok) old new = Unit {0}
IdlesUnlessDone (Ok (given.Doc text)) old new = Idles old new
IdlesUnlessDone (Ok (given.Rows rows)) old new = Idles old new
IdlesUnlessDone (Ok (given.Refused why)) old new = Idles old new
IdlesUnlessDone (Err fault.Disk) old new = Unit {0}
IdlesUnlessDone (Err (fault.Damaged extent at)) old new = Idles old new
IdlesUnlessDone (Err fault.Sink) old new = Idles old new

-- a read and a query leave the disk's lists as they are, and so does a write that is not made
abbrev pub LeavesLists : Line → Result Reply Fault → History → History → Type 0
LeavesLists (line.Create tree) result old new = IdlesUnlessDone result old new
LeavesLists (line.Upsert tree) result old new = IdlesUnlessDone result old new
LeavesLists (line.Replace tree) result old new = IdlesUnlessDone result old new
LeavesLists (line.Delete id) result old new = IdlesUnlessDone result old new
LeavesLists (line.Read id) result old new = Idles old new
LeavesLists (line.Query body) result old new = Idles old new

-- the disk's count of faults rises where the disk failed, and nowhere else; no sink has failed
abbrev pub CountsAnswer : Result Reply Fault → ℕ → ℕ → Type 0
CountsAnswer (Err fault.Disk) earlier later = Rose earlier later
CountsAnswer (Err fault.Sink) earlier later = ⊥
CountsAnswer other earlier later = later ≡ earlier
