-- The reply that the engine gives as data is one of the definition; and what a line may be answered, whatever
-- the store holds.
use Rattle.std.specs.Prelude.{◌≡◌, ◌⊎◌, ℕ, List, length, Option, None, Some, Result, Ok, Err}
use Rattle.std.specs.Global.{Vec}
use Rattle.std.specs.List.{flat_map}
use Rattle.ax_grammar.specs.Query.{query_in}
use Rattle.ax_lines.specs.Causes.{unless}
use Rattle.ax_lines.specs.declared.line.Line.{Line}
use Rattle.ax_lines.specs.declared.line.Line.TheVariants as line
use Rattle.ax_lines.specs.declared.refusal.Refusal.{Refusal}
use Rattle.ax_lines.specs.declared.refusal.Refusal.TheVariants as refusal
use Rattle.ax_machine.specs.Querying.{causes}
use Rattle.ax_machine.specs.Reply as reply
use Rattle.ax_machine.specs.ReplyTexts.{row_text}
use Rattle.ax_mean.specs.declared.query.Query.{Query}
use Rattle.ax_policy.specs.declared.policy.Policy.{Policy}
use Rattle.ax_store.specs.declared.fault.StoreFault.{StoreFault}
use Rattle.ax_store.specs.declared.fault.StoreFault.TheVariants as store_fault
use Rattle.ax_write.specs.declared.fault.WriteFault.{WriteFault}
use Rattle.ax_write.specs.declared.fault.WriteFault.TheVariants as write
use Rattle.ax_engine.specs.declared.engine.Fault.{Fault}
use Rattle.ax_engine.specs.declared.engine.Fault.TheVariants as fault
use Rattle.ax_engine.specs.declared.reply.Reply.{Reply}
use Rattle.ax_engine.specs.declared.reply.Reply.TheVariants as given
use Rattle.ax_engine.specs.declared.rows.Rows.{Rows}

-- the lines of rows of these texts
abbrev pub lines_of : List (List ℕ) → List ℕ
lines_of texts = flat_map row_text texts

-- the rows have these texts
pub record AreRows (rows : Rows) (texts : List (List ℕ)) : Type 0 where
  pub lines : rows.lines.items ≡ lines_of texts
  pub count : rows.count ≡ length texts

-- the reply is this one
abbrev pub IsReply : Reply → reply.Reply → Type 0
IsReply given.Ok meant = meant ≡ reply.Ok
IsReply (given.Doc text) meant = meant ≡ reply.Doc text.items
IsReply (given.Rows rows) meant =
    (texts : List (List ℕ)) × AreRows rows texts × (meant ≡ reply.Rows texts reply.End)
IsReply (given.Refused why) meant = meant ≡ reply.Refused why

-- ---- what a line may be answered, whatever the store holds

-- the refusal that was answered, if one was
abbrev pub refusal_in : {A : Type 0} → Result A Refusal → Option Refusal
refusal_in (Ok answer) = None
refusal_in (Err why) = Some why

-- The own refusal of a query under a policy, which no document has a part in: a text of which the grammar makes no query
-- is refused as such, and a query by the first of its causes that applies. Where none does there is none.
abbrev pub own_refusal : Policy → Option Query → Option Refusal
own_refusal policy None = Some refusal.Query
own_refusal policy (Some query) = refusal_in (unless (causes policy query) (Ok (tt {0})))

-- what a query is answered that has this refusal, or none: it, or rows
abbrev pub FitsRefusal : Option Refusal → Reply → Type 0
FitsRefusal own given.Ok = ⊥
FitsRefusal own (given.Doc text) = ⊥
FitsRefusal own (given.Rows rows) = own ≡ None
FitsRefusal own (given.Refused why) = own ≡ Some why

-- what a write is answered that may be refused so: that it was made, or that
abbrev pub FitsWrite : (Refusal → Type 0) → Reply → Type 0
FitsWrite MayRefuse given.Ok = Unit {0}
FitsWrite MayRefuse (given.Doc text) = ⊥
FitsWrite MayRefuse (given.Rows rows) = ⊥
FitsWrite MayRefuse (given.Refused why) = MayRefuse why

abbrev pub RefusesCreation : Refusal → Type 0
RefusesCreation why = (why ≡ refusal.Conflict) ⊎ ((why ≡ refusal.Full) ⊎ (why ≡ refusal.Memory))

abbrev pub RefusesUpsert : Refusal → Type 0
RefusesUpsert why = (why ≡ refusal.Full) ⊎ (why ≡ refusal.Memory)

-- of a line for an id that is to be held
abbrev pub RefusesAbsent : Refusal → Type 0
RefusesAbsent why = (why ≡ refusal.Absent) ⊎ (why ≡ refusal.Memory)

-- what a read is answered: a document, that there is none, or that memory ran out
abbrev pub FitsRead : Reply → Type 0
FitsRead given.Ok = ⊥
FitsRead (given.Doc text) = Unit {0}
FitsRead (given.Rows rows) = ⊥
FitsRead (given.Refused why) = RefusesAbsent why

-- What a line may be answered under a policy, whatever the store holds. A query: rows only where it has no refusal of its
-- own, that refusal, or that memory ran out. A write: that it was made, or a refusal that is one of its line. A read: a
-- document, that there is none, or that memory ran out.
abbrev pub MayReply : Policy → Line → Reply → Type 0
MayReply policy (line.Create tree) made = FitsWrite RefusesCreation made
MayReply policy (line.Upsert tree) made = FitsWrite RefusesUpsert made
MayReply policy (line.Replace tree) made = FitsWrite RefusesAbsent made
MayReply policy (line.Delete id) made = FitsWrite RefusesAbsent made
MayReply policy (line.Read id) made = FitsRead made
MayReply policy (line.Query body) made =
    FitsRefusal (own_refusal policy (query_in body.params body.text)) made ⊎ (made ≡ given.Refused refusal.Memory)

-- ---- what the parts of the engine answered, as the answer to a line

-- what reading answered, as the answer to a line: want of memory is a refusal
abbrev pub read_answer : Result Reply StoreFault → Result Reply Fault
read_answer (Ok reply) = Ok reply
read_answer (Err store_fault.Disk) = Err fault.Disk
read_answer (Err (store_fault.Damaged extent at)) = Err (fault.Damaged extent at)
read_answer (Err (store_fault.Newer version)) = Ok (given.Refused refusal.Memory)
read_answer (Err store_fault.Memory) = Ok (given.Refused refusal.Memory)

-- what looking up the text of a document answered, as the answer to a READ line: that there is none is a refusal
abbrev pub look_up_answer : Result (Option (Vec ℕ)) StoreFault → Result Reply Fault
look_up_answer (Ok (Some text)) = Ok (given.Doc text)
look_up_answer (Ok None) = Ok (given.Refused refusal.Absent)
look_up_answer (Err store_fault.Disk) = Err fault.Disk
look_up_answer (Err (store_fault.Damaged extent at)) = Err (fault.Damaged extent at)
look_up_answer (Err (store_fault.Newer version)) = Ok (given.Refused refusal.Memory)
look_up_answer (Err store_fault.Memory) = Ok (given.Refused refusal.Memory)

-- what a write came to, as the answer to its line: a refusal of the container, and want of memory
abbrev pub write_answer : Result (Unit {0}) WriteFault → Result Reply Fault
write_answer (Ok made) = Ok given.Ok
write_answer (Err write.Conflict) = Ok (given.Refused refusal.Conflict)
write_answer (Err write.Absent) = Ok (given.Refused refusal.Absent)
write_answer (Err write.Full) = Ok (given.Refused refusal.Full)
write_answer (Err (write.Store store_fault.Disk)) = Err fault.Disk
write_answer (Err (write.Store (store_fault.Damaged extent at))) = Err (fault.Damaged extent at)
write_answer (Err (write.Store (store_fault.Newer version))) = Ok (given.Refused refusal.Memory)
write_answer (Err (write.Store store_fault.Memory)) = Ok (given.Refused refusal.Memory)
