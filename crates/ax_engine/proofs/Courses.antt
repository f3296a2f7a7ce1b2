-- What a line is answered, and what the engine has then, from what its documents tell.
use Rattle.std.proofs.Common.{◌≡◌, ℕ, Bool, List, Some, Result, Ok, Err, OnErr, subst}
use Rattle.std.specs.Prelude.{IfOk, IsTrue}
use Rattle.ax_documents.specs.Documents.{IsReadOf}
use Rattle.ax_grammar.specs.Query.{query_in}
use Rattle.ax_lines.specs.declared.body.Body.{Body}
use Rattle.ax_lines.specs.declared.line.Line.{Line}
use Rattle.ax_lines.specs.declared.line.Line.TheVariants as line
use Rattle.ax_mean.specs.declared.query.Query.{Query}
use Rattle.ax_store.specs.declared.fault.StoreFault.{StoreFault}
use Rattle.ax_store.specs.declared.fault.StoreFault.TheVariants as store_fault
use Rattle.ax_table.specs.TableAgrees.{TableAgrees}
use Rattle.ax_write.specs.Learnt.{Learns}
use Rattle.ax_write.specs.Writes.{SamePolicies}
use Rattle.ax_write.specs.declared.fault.WriteFault.{WriteFault}
use Rattle.ax_engine.specs.Batched.{MakesSmall}
use Rattle.ax_engine.specs.Course.{Course, IsDoneBy, IsQueryBy, IsReadBy, LearnsLine, Standing}
use Rattle.ax_engine.specs.Damage.{IfRows, MeetsPlanned}
use Rattle.ax_engine.specs.Engine.{IsWrite}
use Rattle.ax_engine.specs.Judging.{Judges, MeetsLine}
use Rattle.ax_engine.specs.PolicyNow.{policy_now}
use Rattle.ax_engine.specs.Replies.{MayReply, look_up_answer, read_answer, write_answer}
use Rattle.ax_engine.specs.declared.engine.Fault.{Fault}
use Rattle.ax_engine.specs.declared.reply.Reply.{Reply}
use Rattle.ax_engine.proofs.Applying.{LookedUp, if_ok, judges_looked}

-- what was done, with what is so of each line
pub with_course : (honest : Bool) (asked : Line) (answer : Result Reply Fault) (old new : Standing)
    → TableAgrees honest old.table old.contents → SamePolicies old.table new.table
    → IfOk answer (λ reply. MayReply (policy_now old.table) asked reply) → IfOk answer (λ reply. IsDoneBy honest asked reply old new)
    → IfOk answer (λ reply. Course honest asked reply old new)
with_course honest asked (Ok reply) old new agrees policies may done =
    record { agrees = agrees; policies = policies; may = may; done = done }
with_course honest asked (Err why) old new agrees policies may done = tt

-- ---- by what each call tells

pub done_written : (honest : Bool) (asked : Line) (made : Result (Unit {0}) WriteFault) (old new : Standing) → IsWrite asked
    → (IsTrue honest → MeetsLine asked made old.ids old.contents) → LearnsLine asked made honest old.contents old.ids new.ids
    → MakesSmall asked made honest old.table old.ids old.contents new.contents → OnErr made (new.contents ≡ old.contents)
    → IfOk (write_answer made) (λ reply. IsDoneBy honest asked reply old new)
done_written honest (line.Create tree) made old new is met learns small kept =
    if_ok (write_answer made) (λ reply. IsDoneBy honest (line.Create tree) reply old new)
    (λ reply same. record { made = made; answer = same; met = met; learns = learns; small = small; kept = kept })
done_written honest (line.Upsert tree) made old new is met learns small kept =
    if_ok (write_answer made) (λ reply. IsDoneBy honest (line.Upsert tree) reply old new)
    (λ reply same. record { made = made; answer = same; met = met; learns = learns; small = small; kept = kept })
done_written honest (line.Replace tree) made old new is met learns small kept =
    if_ok (write_answer made) (λ reply. IsDoneBy honest (line.Replace tree) reply old new)
    (λ reply same. record { made = made; answer = same; met = met; learns = learns; small = small; kept = kept })
done_written honest (line.Delete id) made old new is met learns small kept =
    if_ok (write_answer made) (λ reply. IsDoneBy honest (line.Delete id) reply old new)
    (λ reply same. record { made = made; answer = same; met = met; learns = learns; small = small; kept = kept })
done_written honest (line.Read id) made old new is met learns small kept = absurd is
done_written honest (line.Query body) made old new is met learns small kept = absurd is

-- what is so of an answer where that holds
if_ok_where : (answer : Result Reply Fault) (That : Type 0) (Is : Reply → Type 0) → (That → IfOk answer Is)
    → IfOk answer (λ reply. That → Is reply)
if_ok_where (Ok reply) That Is by = by
if_ok_where (Err why) That Is by = tt

read_by : (honest : Bool) (id : List ℕ) (answer : Result Reply Fault) (old new : Standing)
    → IfOk answer (λ reply. IsTrue honest → Judges (line.Read id) old.ids old.contents reply)
    → Learns honest id old.contents old.ids new.ids → new.contents ≡ old.contents
    → IfOk answer (λ reply. IsReadBy honest id reply old new)
read_by honest id (Ok reply) old new met learns kept = record { met = met; learns = learns; kept = kept }
read_by honest id (Err why) old new met learns kept = tt

pub done_looked : (honest : Bool) (id bytes : List ℕ) (found : LookedUp) (old new : Standing) → bytes ≡ id
    → (IsTrue honest → IfOk found (IsReadOf old.ids bytes old.contents)) → Learns honest bytes old.contents old.ids new.ids
    → new.contents ≡ old.contents → IfOk (look_up_answer found) (λ reply. IsReadBy honest id reply old new)
done_looked honest id bytes found old new same met learns kept =
    read_by honest id (look_up_answer found) old new
    (if_ok_where (look_up_answer found) (IsTrue honest) (Judges (line.Read id) old.ids old.contents)
    (λ trusted. judges_looked id bytes found old.ids old.contents same (met trusted)))
    (subst (λ (i : List ℕ). Learns honest i old.contents old.ids new.ids) same learns) kept

pub done_queried : (honest : Bool) (body : Body) (read : Result Reply StoreFault) (old new : Standing)
    → (IsTrue honest → (query : Query) → query_in body.params body.text ≡ Some query
    → IfOk read (λ reply. IfRows reply (MeetsPlanned old.table query old.contents)))
    → new.ids ≡ old.ids → new.contents ≡ old.contents → IfOk (read_answer read) (λ reply. IsQueryBy honest body reply old new)
done_queried honest body (Ok reply) old new met ids kept = record { met = met; ids = ids; kept = kept }
done_queried honest body (Err store_fault.Disk) old new met ids kept = tt
done_queried honest body (Err (store_fault.Damaged extent at)) old new met ids kept = tt
done_queried honest body (Err (store_fault.Newer version)) old new met ids kept =
    record { met = λ trusted query is. tt; ids = ids; kept = kept }
done_queried honest body (Err store_fault.Memory) old new met ids kept =
    record { met = λ trusted query is. tt; ids = ids; kept = kept }
