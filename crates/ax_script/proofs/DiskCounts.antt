-- What the disk counts where a run ends, over what it counted before.
use Rattle.std.proofs.Common.{◌≡◌, ℕ, Result, Ok, Err, refl, sym, ap, subst}
use Rattle.ax_engine.specs.Engine.{CountsAnswer}
use Rattle.ax_engine.specs.declared.engine.Fault.{Fault}
use Rattle.ax_engine.specs.declared.engine.Fault.TheVariants as fault
use Rattle.ax_engine.specs.declared.reply.Reply.{Reply}
use Rattle.ax_faults.specs.Faults.{Rose}
use Rattle.ax_script.specs.declared.status.Status.{Status}
use Rattle.ax_script.specs.declared.status.Status.TheVariants as status
use Rattle.ax_script.specs.Replies.{fault_status}
use Rattle.ax_script.specs.Statuses.{CallCountsDisk, CountsDisk}

-- ---- what is counted, from an earlier time at which the count was the same

pub counts_since : (ended : Status) (first earlier later : ℕ) → earlier ≡ first
    → CountsDisk ended earlier later → CountsDisk ended first later
counts_since ended first earlier later same counted =
    subst (λ (count : ℕ). CountsDisk ended count later) same counted

-- ---- by whether the disk failed

pub fault_counted : (ended : Status) (earlier later : ℕ) → CountsDisk ended earlier later
    → ended ≡ status.DiskFault → Rose earlier later
fault_counted ended earlier later counted is =
    subst (λ (s : Status). CountsDisk s earlier later) is counted

none_counted : (ended : Status) (earlier later : ℕ) → (ended ≡ status.DiskFault → ⊥) → later ≡ earlier
    → CountsDisk ended earlier later
none_counted status.DiskFault earlier later other same = absurd (other refl)
none_counted status.Done earlier later other same = same
none_counted status.Words earlier later other same = same
none_counted status.ReadFault earlier later other same = same
none_counted status.WriteFault earlier later other same = same
none_counted (status.Damaged extent at) earlier later other same = same
none_counted (status.Newer version) earlier later other same = same
none_counted status.Memory earlier later other same = same
none_counted status.Long earlier later other same = same

-- ---- a line

fault_of_engine : (why : Fault) (earlier later : ℕ) → CountsAnswer (Err why) earlier later
    → CountsDisk (fault_status why) earlier later
fault_of_engine fault.Disk earlier later counted = counted
fault_of_engine (fault.Damaged extent at) earlier later counted = counted
fault_of_engine fault.Sink earlier later counted = absurd counted

-- what the engine counted is what the line did, whose reply was written or not
pub line_counted : (result : Result (Unit {0}) Status) (answered : Result Reply Fault) (earlier later : ℕ)
    → (result ≡ Err status.DiskFault → answered ≡ Err fault.Disk)
    → ((why : Fault) → answered ≡ Err why → result ≡ Err (fault_status why))
    → CountsAnswer answered earlier later → CallCountsDisk result earlier later
line_counted result (Err why) earlier later disk told counted =
    subst (λ (r : Result (Unit {0}) Status). CallCountsDisk r earlier later) (sym (told why refl))
    (fault_of_engine why earlier later counted)
line_counted (Ok done) (Ok made) earlier later disk told counted = counted
line_counted (Err ended) (Ok made) earlier later disk told counted =
    none_counted ended earlier later (λ is. let no_reply = disk (ap (λ (s : Status). Err s) is) in cc) counted
