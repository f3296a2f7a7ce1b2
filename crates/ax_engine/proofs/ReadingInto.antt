-- The fault that an engine keeps is none of a sink; and a reply that is written in pieces.
use Rattle.std.proofs.Common.{◌≡◌, ℕ, List, ◌++◌, ◌+◌, length, take, Option, None, Some, Result, Ok, Err, OnOk, OnErr, refl, sym, ap, subst, ◌∙◌}
use Rattle.std.proofs.Common.{length-append, arith}
use Rattle.std.specs.Prelude.{◌≢◌, IfErr}
use Rattle.std.specs.Io.KnownBytes.{Appends}
use Rattle.std.proofs.KnownBytes.{Appends-trans}
use Rattle.std.proofs.lemmas.List.{take-append-le}
use Rattle.std.proofs.Math.Seq.{take-append-add}
use Rattle.ax_base.specs.Appends.{AppendsPrefix}
use Rattle.ax_engine.specs.Engine.{CountsAnswer}
use Rattle.ax_engine.specs.Reading.{IsWritten}
use Rattle.ax_engine.specs.declared.engine.Fault.{Fault}
use Rattle.ax_engine.specs.declared.engine.Fault.TheVariants as fault
use Rattle.ax_engine.specs.declared.reply.Reply.{Reply}

-- ---- the fault of a sink

-- it is none that is answered without one
pub no_sink_answered : (answered : Result Reply Fault) (l m : ℕ) → CountsAnswer answered l m → answered ≢ Err fault.Sink
no_sink_answered (Ok made) l m counted = λ is. cc
no_sink_answered (Err fault.Disk) l m counted = λ is. cc
no_sink_answered (Err (fault.Damaged extent at)) l m counted = λ is. cc
no_sink_answered (Err fault.Sink) l m counted = λ is. counted

-- and so none that is kept
pub no_sink_kept : (answered : Result Reply Fault) (kept : Option Fault) (l m : ℕ) → CountsAnswer answered l m
    → IfErr answered (λ why. kept ≡ Some why) → OnOk answered (kept ≡ None) → kept ≢ Some fault.Sink
no_sink_kept (Ok made) kept l m counted some none = λ is. (let both : None ≡ Some fault.Sink = sym none ∙ is in cc)
no_sink_kept (Err why) kept l m counted some none = λ is.
    (let both : Some why ≡ Some fault.Sink = sym some ∙ is in
    let same : why ≡ fault.Sink = cc in no_sink_answered (Err why) l m counted (ap (λ w. Err w) same))

-- one that is kept was told, and nothing was written
pub kept_written : (kept : Option Fault) (why : Fault) (written : Option (List ℕ)) → kept ≡ Some why → kept ≢ Some fault.Sink
    → IsWritten (Err why) (Err why) written written
kept_written kept why written some other = (refl, λ is. other (some ∙ ap (λ w. Some w) is), refl)

-- ---- pieces of a reply

-- a prefix of what comes first is one of the whole
pub prefix_of_first : (old new : Option (List ℕ)) (first rest : List ℕ) → AppendsPrefix old new first
    → AppendsPrefix old new (first ++ rest)
prefix_of_first old new first rest prefix = (
  prefix.0,
  omega (arith, prefix.1, length-append first rest),
  subst (Appends old new) (sym (take-append-le prefix.0 first rest prefix.1)) prefix.2,
)

-- and so is a prefix of what follows, behind what comes first
pub prefix_behind : (old between new : Option (List ℕ)) (first rest : List ℕ) → Appends old between first
    → AppendsPrefix between new rest → AppendsPrefix old new (first ++ rest)
prefix_behind old between new first rest added prefix = (
  length first + prefix.0,
  omega (arith, prefix.1, length-append first rest),
  subst (Appends old new) (sym (take-append-add first rest prefix.0))
      (Appends-trans old between new first (take prefix.0 rest) added prefix.2),
)

pub on_err : {T E P Q : Type 0} (result : Result T E) → (P → Q) → OnErr result P → OnErr result Q
on_err (Ok value) f p = tt
on_err (Err why) f p = f p
