-- A write that was made is the answer to its line, and so is the batch that it put.
use Rattle.std.proofs.Common.{List, ℕ, Bool, Result, Ok, Err}
use Rattle.std.specs.Prelude.{OnOk}
use Rattle.ax_area.specs.Contents.{Contents}
use Rattle.ax_lines.specs.declared.line.Line.{Line}
use Rattle.ax_lines.specs.declared.line.Line.TheVariants as line
use Rattle.ax_policy.specs.Table.{Table}
use Rattle.ax_store.specs.declared.fault.StoreFault.TheVariants as store_fault
use Rattle.ax_write.specs.declared.fault.WriteFault.{WriteFault}
use Rattle.ax_write.specs.declared.fault.WriteFault.TheVariants as write
use Rattle.ax_engine.specs.Batched.{AnswersSmall, IfDone, MakesSmall}
use Rattle.ax_engine.specs.Replies.{write_answer}

done_of : (made : Result (Unit {0}) WriteFault) (Is : Type 0) → OnOk made Is → IfDone (write_answer made) Is
done_of (Ok done) Is is = is
done_of (Err write.Conflict) Is is = tt
done_of (Err write.Absent) Is is = tt
done_of (Err write.Full) Is is = tt
done_of (Err (write.Store store_fault.Disk)) Is is = tt
done_of (Err (write.Store (store_fault.Damaged extent at))) Is is = tt
done_of (Err (write.Store (store_fault.Newer version))) Is is = tt
done_of (Err (write.Store store_fault.Memory)) Is is = tt

pub small_written : (asked : Line) (made : Result (Unit {0}) WriteFault) (honest : Bool) (table : Table) (ids : List (List ℕ × ℕ))
    (old new : Contents) → MakesSmall asked made honest table ids old new
    → AnswersSmall asked (write_answer made) honest table ids old new
small_written (line.Create tree) made honest table ids old new small = done_of made _ small
small_written (line.Upsert tree) made honest table ids old new small = λ id is. done_of made _ (small id is)
small_written (line.Replace tree) made honest table ids old new small = λ id is. done_of made _ (small id is)
small_written (line.Delete id) made honest table ids old new small = done_of made _ small
small_written (line.Read id) made honest table ids old new small = tt
small_written (line.Query body) made honest table ids old new small = tt
