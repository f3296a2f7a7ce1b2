-- What a line that writes puts into the index where it is made: in one batch the changes of the one document that it is of,
-- and no more, whatever the store holds.
-- It is this project's own; it comes from no public document.
use Rattle.std.specs.Prelude.{◌≡◌, ℕ, Bool, List, None, Some, Result, Ok, Err, OnOk}
use Rattle.ax_area.specs.Contents.{Contents}
use Rattle.ax_lines.specs.declared.line.Line.{Line}
use Rattle.ax_lines.specs.declared.line.Line.TheVariants as line
use Rattle.ax_policy.specs.Table.{Table}
use Rattle.ax_tree.specs.Document.{document_id}
use Rattle.ax_write.specs.Small.{IsNew, IsNewOrTold, IsSmallBatch, IsToldHeld}
use Rattle.ax_write.specs.declared.fault.WriteFault.{WriteFault}
use Rattle.ax_engine.specs.declared.engine.Fault.{Fault}
use Rattle.ax_engine.specs.declared.reply.Reply.{Reply}
use Rattle.ax_engine.specs.declared.reply.Reply.TheVariants as given

-- where a write that came to this was made, its batch is of one document: a new one, or that of the id
abbrev pub MakesSmall : Line → Result (Unit {0}) WriteFault → Bool → Table → List (List ℕ × ℕ) → Contents → Contents → Type 0
MakesSmall (line.Create tree) made honest table ids old new = OnOk made (IsSmallBatch (IsNew old) honest table (Some tree) old new)
MakesSmall (line.Upsert tree) made honest table ids old new = (id : List ℕ) → document_id tree ≡ Some id
    → OnOk made (IsSmallBatch (IsNewOrTold honest ids id old) honest table (Some tree) old new)
MakesSmall (line.Replace tree) made honest table ids old new = (id : List ℕ) → document_id tree ≡ Some id
    → OnOk made (IsSmallBatch (IsToldHeld honest ids id old) honest table (Some tree) old new)
MakesSmall (line.Delete id) made honest table ids old new =
    OnOk made (IsSmallBatch (IsToldHeld honest ids id old) honest table None old new)
MakesSmall (line.Read id) made honest table ids old new = Unit {0}
MakesSmall (line.Query body) made honest table ids old new = Unit {0}

-- where the answer is that a write was made, this is so
abbrev pub IfDone : Result Reply Fault → Type 0 → Type 0
IfDone (Ok given.Ok) Is = Is
IfDone (Ok (given.Doc text)) Is = Unit {0}
IfDone (Ok (given.Rows rows)) Is = Unit {0}
IfDone (Ok (given.Refused why)) Is = Unit {0}
IfDone (Err why) Is = Unit {0}

-- the same where a line was answered so
abbrev pub AnswersSmall : Line → Result Reply Fault → Bool → Table → List (List ℕ × ℕ) → Contents → Contents → Type 0
AnswersSmall (line.Create tree) answer honest table ids old new =
    IfDone answer (IsSmallBatch (IsNew old) honest table (Some tree) old new)
AnswersSmall (line.Upsert tree) answer honest table ids old new = (id : List ℕ) → document_id tree ≡ Some id
    → IfDone answer (IsSmallBatch (IsNewOrTold honest ids id old) honest table (Some tree) old new)
AnswersSmall (line.Replace tree) answer honest table ids old new = (id : List ℕ) → document_id tree ≡ Some id
    → IfDone answer (IsSmallBatch (IsToldHeld honest ids id old) honest table (Some tree) old new)
AnswersSmall (line.Delete id) answer honest table ids old new =
    IfDone answer (IsSmallBatch (IsToldHeld honest ids id old) honest table None old new)
AnswersSmall (line.Read id) answer honest table ids old new = Unit {0}
AnswersSmall (line.Query body) answer honest table ids old new = Unit {0}
