-- A READ line, whose reply the engine has written: what that comes to, as what serving the line does.
use Rattle.std.proofs.Common.{◌≡◌, inl, ℕ, ◌+◌, ◌≤◌, Bool, List, Option, Result, Ok, Err, OnOk, OnErr, refl, sym, subst}
use Rattle.std.specs.Prelude.{IsTrue}
use Rattle.ax_cache.specs.Pages.{CachedPages}
use Rattle.ax_container.specs.Container.{Container}
use Rattle.ax_disk.specs.model.Moments.{History}
use Rattle.ax_engine.specs.Engine.{Applies, HoldsOver, Works}
use Rattle.ax_engine.specs.Reading.{IsWritten, Writes, text_of_reply}
use Rattle.ax_engine.specs.declared.engine.Engine.{Engine}
use Rattle.ax_engine.specs.declared.engine.Fault.{Fault}
use Rattle.ax_engine.specs.declared.engine.Fault.TheVariants as fault
use Rattle.ax_engine.specs.declared.reply.Reply.{Reply}
use Rattle.ax_lines.specs.Lines.{line_of}
use Rattle.ax_lines.specs.declared.line.Line.{Line}
use Rattle.ax_lines.specs.declared.line.Line.TheVariants as line
use Rattle.ax_lines.specs.declared.refusal.Refusal.{Refusal}
use Rattle.ax_machine.specs.Needs.{most_steps, most_steps_of}
use Rattle.ax_script.specs.declared.status.Status.{Status}
use Rattle.ax_script.specs.Progress.{BeginsToServe, Serves, outlets}
use Rattle.ax_script.specs.Replies.{WritesPart, WritesWhole, read_status}
use Rattle.ax_script.proofs.Replying.{part_of, tells_applied, whole_of}

-- ---- what was written of an answer

read_whole : (answered : Result Reply Fault) (told : Result (Unit {0}) Fault) (old new : Option (List ℕ))
    → IsWritten answered told old new → OnOk (read_status told) (WritesWhole answered old new)
read_whole (Ok made) (Ok done) old new written = (text_of_reply made, inl refl, written)
read_whole (Ok made) (Err why) old new written = tt
read_whole (Err why) told old new written =
    subst (λ (t : Result (Unit {0}) Fault). OnOk (read_status t) (WritesWhole (Err why) old new)) (sym written.0) tt

read_part : (answered : Result Reply Fault) (told : Result (Unit {0}) Fault) (old new : Option (List ℕ))
    → IsWritten answered told old new → OnErr (read_status told) (WritesPart answered old new)
read_part (Ok made) (Ok done) old new written = tt
read_part (Ok made) (Err fault.Disk) old new written = absurd written
read_part (Ok made) (Err (fault.Damaged extent at)) old new written = absurd written
read_part (Ok made) (Err fault.Sink) old new written = (text_of_reply made, inl refl, written)
read_part (Err why) told old new written =
    subst (λ (t : Result (Unit {0}) Fault). OnErr (read_status t) (WritesPart (Err why) old new)) (sym written.0) (sym written.2)

-- ---- the line

module _ {C : Type 0} (pages : C → CachedPages) (trusted : Bool) (before : Container) (bytes id : List ℕ) (engine : Engine C)
    (written now : Option (List ℕ)) (old new : History) (steps later : ℕ)
    (result : Result (Unit {0}) Status) (told : Result (Unit {0}) Fault) (is : result ≡ read_status told)
    (read : line_of bytes ≡ Ok (line.Read id))
    (writes : Writes (λ answer. Applies (IsTrue trusted) before (line.Read id) answer engine old new) told written now)
    (works : Works pages trusted engine new) (bounded : later ≤ steps + most_steps_of before (Ok (line.Read id))) where
  within : later ≤ steps + most_steps before bytes
  within = subst (λ (meant : Result Line Refusal). later ≤ steps + most_steps_of before meant) (sym read) bounded

  -- its reply was written
  pub read_served : OnOk result ((after : Container) × HoldsOver engine new after
      × Serves (IsTrue trusted) before bytes after (outlets written old steps) (outlets now new later))
  read_served =
      whole_of pages trusted before bytes engine written now old new steps later result writes.0
      (tells_applied (IsTrue trusted) before bytes (line.Read id) engine old new writes.0 read writes.1) works within
      (subst (λ (r : Result (Unit {0}) Status). OnOk r (WritesWhole writes.0 written now)) (sym is)
      (read_whole writes.0 told written now writes.2))

  -- or a prefix of it
  pub read_begun : OnErr result
      (BeginsToServe (IsTrue trusted) before bytes (outlets written old steps) (outlets now new later))
  read_begun =
      part_of pages trusted before bytes engine written now old new steps later result writes.0
      (tells_applied (IsTrue trusted) before bytes (line.Read id) engine old new writes.0 read writes.1) works within
      (subst (λ (r : Result (Unit {0}) Status). OnErr r (WritesPart writes.0 written now)) (sym is)
      (read_part writes.0 told written now writes.2))
