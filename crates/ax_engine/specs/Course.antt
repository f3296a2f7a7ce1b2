-- What an engine has when a line comes, and what is so of its reply and of what the engine has then, whatever the store holds. So
-- lines that come one after another are told of by the contents that each of them met.
-- It is this project's own; it comes from no public document.
use Rattle.std.specs.Prelude.{◌≡◌, ◌⊎◌, ℕ, Bool, List, [], Some, Result, Ok, OnErr, IsTrue}
use Rattle.ax_area.specs.Contents.{Contents}
use Rattle.ax_disk.specs.model.Image.{Image}
use Rattle.ax_documents.specs.declared.documents.Documents.{Documents}
use Rattle.ax_grammar.specs.Query.{query_in}
use Rattle.ax_lines.specs.declared.body.Body.{Body}
use Rattle.ax_lines.specs.declared.line.Line.{Line}
use Rattle.ax_lines.specs.declared.line.Line.TheVariants as line
use Rattle.ax_lines.specs.declared.refusal.Refusal.TheVariants as refusal
use Rattle.ax_mean.specs.declared.query.Query.{Query}
use Rattle.ax_policy.specs.Table.{Table}
use Rattle.ax_store.specs.Store.{Has, store_contents}
use Rattle.ax_table.specs.TableAgrees.{TableAgrees}
use Rattle.ax_tree.specs.Document.{document_id}
use Rattle.ax_write.specs.Learnt.{Learns, LearnsOfCreation, LearnsOfDeletion, LearnsOfUpsert}
use Rattle.ax_write.specs.Writes.{SamePolicies}
use Rattle.ax_write.specs.declared.fault.WriteFault.{WriteFault}
use Rattle.ax_engine.specs.Batched.{MakesSmall}
use Rattle.ax_engine.specs.Damage.{IfRows, MeetsPlanned}
use Rattle.ax_engine.specs.Judging.{IsOfLookUp, MeetsLine}
use Rattle.ax_engine.specs.PolicyNow.{policy_now}
use Rattle.ax_engine.specs.Replies.{MayReply, write_answer}
use Rattle.ax_engine.specs.declared.reply.Reply.{Reply}
use Rattle.ax_engine.specs.declared.reply.Reply.TheVariants as given

-- the table of policies, the ids lately found, and what the pages of the store say
pub record Standing : Type 0 where
  pub table : Table
  pub ids : List (List ℕ × ℕ)
  pub contents : Contents

abbrev pub standing_of : {C : Type 0} → Documents C → Standing
standing_of documents =
    record { table = documents.table; ids = documents.ids; contents = store_contents documents.store }

-- what opening gives: no id has been found yet, and the contents are those that the image says
pub record IsOpenedFrom (image : Image) (was : Standing) : Type 0 where
  pub ids : was.ids ≡ []
  pub says : Has was.contents image

-- what a write that came to this leaves in the table of ids lately found
abbrev pub LearnsLine : Line → Result (Unit {0}) WriteFault → Bool → Contents → List (List ℕ × ℕ) → List (List ℕ × ℕ) → Type 0
LearnsLine (line.Create tree) made honest contents old new =
    (id : List ℕ) → document_id tree ≡ Some id → LearnsOfCreation made honest id contents old new
LearnsLine (line.Upsert tree) made honest contents old new =
    (id : List ℕ) → document_id tree ≡ Some id → LearnsOfUpsert made honest id contents old new
LearnsLine (line.Replace tree) made honest contents old new =
    (id : List ℕ) → document_id tree ≡ Some id → Learns honest id contents old new
LearnsLine (line.Delete id) made honest contents old new = LearnsOfDeletion made honest id contents old new
LearnsLine (line.Read id) made honest contents old new = Unit {0}
LearnsLine (line.Query body) made honest contents old new = Unit {0}

-- The reply is the answer to a write: what it came to, what it has met, and what it leaves. One that is not made leaves the
-- contents as they were.
pub record IsWriteBy (honest : Bool) (asked : Line) (reply : Reply) (old new : Standing) : Type 0 where
  pub made : Result (Unit {0}) WriteFault
  pub answer : write_answer made ≡ Ok reply
  pub met : IsTrue honest → MeetsLine asked made old.ids old.contents
  pub learns : LearnsLine asked made honest old.contents old.ids new.ids
  pub small : MakesSmall asked made honest old.table old.ids old.contents new.contents
  pub kept : OnErr made (new.contents ≡ old.contents)

-- the reply is the answer to a READ line, which changes no contents
pub record IsReadBy (honest : Bool) (id : List ℕ) (reply : Reply) (old new : Standing) : Type 0 where
  pub met : IsTrue honest → IsOfLookUp id old.ids old.contents reply ⊎ (reply ≡ given.Refused refusal.Memory)
  pub learns : Learns honest id old.contents old.ids new.ids
  pub kept : new.contents ≡ old.contents

-- the reply is the answer to a query, which changes neither contents nor ids
pub record IsQueryBy (honest : Bool) (body : Body) (reply : Reply) (old new : Standing) : Type 0 where
  pub met : IsTrue honest → (query : Query) → query_in body.params body.text ≡ Some query
      → IfRows reply (MeetsPlanned old.table query old.contents)
  pub ids : new.ids ≡ old.ids
  pub kept : new.contents ≡ old.contents

abbrev pub IsDoneBy : Bool → Line → Reply → Standing → Standing → Type 0
IsDoneBy honest (line.Create tree) reply old new = IsWriteBy honest (line.Create tree) reply old new
IsDoneBy honest (line.Upsert tree) reply old new = IsWriteBy honest (line.Upsert tree) reply old new
IsDoneBy honest (line.Replace tree) reply old new = IsWriteBy honest (line.Replace tree) reply old new
IsDoneBy honest (line.Delete id) reply old new = IsWriteBy honest (line.Delete id) reply old new
IsDoneBy honest (line.Read id) reply old new = IsReadBy honest id reply old new
IsDoneBy honest (line.Query body) reply old new = IsQueryBy honest body reply old new

-- The line was answered so by an engine that had this when it came and has that now: the table is that of the contents, and the
-- reply one that the line may have under the policy now.
pub record Course (honest : Bool) (asked : Line) (reply : Reply) (old new : Standing) : Type 0 where
  pub agrees : TableAgrees honest old.table old.contents
  pub policies : SamePolicies old.table new.table
  pub may : MayReply (policy_now old.table) asked reply
  pub done : IsDoneBy honest asked reply old new
