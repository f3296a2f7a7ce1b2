-- What a line has met that is answered, over an honest disk: the table of ids lately found tells its id, or the parts of the
-- index that do are in their grammar; and the text of the document that a write reads is that of a document. So damage is
-- never told as an id that is not held.
-- It is this project's own; it comes from no public document.
use Rattle.std.specs.Prelude.{◌≡◌, ◌⊎◌, ℕ, List, Option, Some, Result, Ok}
use Rattle.std.specs.Global.{Vec}
use Rattle.ax_area.specs.Contents.{Contents}
use Rattle.ax_documents.specs.Documents.{IsReadOf}
use Rattle.ax_lines.specs.declared.line.Line.{Line}
use Rattle.ax_lines.specs.declared.line.Line.TheVariants as line
use Rattle.ax_lines.specs.declared.refusal.Refusal.TheVariants as refusal
use Rattle.ax_tree.specs.Document.{document_id}
use Rattle.ax_write.specs.Writes.{MeetsCreation, MeetsHeld, MeetsUpsert}
use Rattle.ax_write.specs.declared.fault.WriteFault.{WriteFault}
use Rattle.ax_engine.specs.Replies.{look_up_answer, write_answer}
use Rattle.ax_engine.specs.declared.reply.Reply.{Reply}
use Rattle.ax_engine.specs.declared.reply.Reply.TheVariants as given

-- what a write has met that came to this
abbrev pub MeetsLine : Line → Result (Unit {0}) WriteFault → List (List ℕ × ℕ) → Contents → Type 0
MeetsLine (line.Create tree) made ids contents = (id : List ℕ) → document_id tree ≡ Some id → MeetsCreation made ids id contents
MeetsLine (line.Upsert tree) made ids contents = (id : List ℕ) → document_id tree ≡ Some id → MeetsUpsert made ids id contents
MeetsLine (line.Replace tree) made ids contents = (id : List ℕ) → document_id tree ≡ Some id → MeetsHeld made ids id contents
MeetsLine (line.Delete id) made ids contents = MeetsHeld made ids id contents
MeetsLine (line.Read id) made ids contents = Unit {0}
MeetsLine (line.Query body) made ids contents = Unit {0}

-- the reply is the answer to a write that has met this
pub record IsOfWrite (asked : Line) (ids : List (List ℕ × ℕ)) (contents : Contents) (reply : Reply) : Type 0 where
  pub made : Result (Unit {0}) WriteFault
  pub answer : write_answer made ≡ Ok reply
  pub met : MeetsLine asked made ids contents

-- the reply is the answer to a text that was looked up, or that there is none, which has met this
pub record IsOfLookUp (id : List ℕ) (ids : List (List ℕ × ℕ)) (contents : Contents) (reply : Reply) : Type 0 where
  pub found : Option (Vec ℕ)
  pub answer : look_up_answer (Ok found) ≡ Ok reply
  pub met : IsReadOf ids id contents found

-- what is so of a reply to the line, over this table of ids lately found and these contents
abbrev pub Judges : Line → List (List ℕ × ℕ) → Contents → Reply → Type 0
Judges (line.Create tree) ids contents reply = IsOfWrite (line.Create tree) ids contents reply
Judges (line.Upsert tree) ids contents reply = IsOfWrite (line.Upsert tree) ids contents reply
Judges (line.Replace tree) ids contents reply = IsOfWrite (line.Replace tree) ids contents reply
Judges (line.Delete id) ids contents reply = IsOfWrite (line.Delete id) ids contents reply
Judges (line.Read id) ids contents reply = IsOfLookUp id ids contents reply ⊎ (reply ≡ given.Refused refusal.Memory)
Judges (line.Query body) ids contents reply = Unit {0}
