-- Each way to end, from whether the store was opened.
use Rattle.std.proofs.Common.{IsTrue, Bool, List, ℕ, subst, sym, ◌∙◌}
use Rattle.ax_area.specs.Image.{IsDamaged, IsNewer}
use Rattle.ax_disk.specs.declared.extent.Extent.TheVariants.{Root}
use Rattle.ax_disk.specs.model.Moments.{History}
use Rattle.ax_image.specs.Readable.{newest}
use Rattle.ax_documents.specs.Opening.{IsStore}
use Rattle.ax_documents.specs.Opening.{IsWithin}
use Rattle.ax_engine.specs.Course.{IsOpenedFrom, standing_of}
use Rattle.ax_script.specs.Answered.{TellsAnswered}
use Rattle.ax_script.specs.CommandLine.{store_word}
use Rattle.ax_script.specs.DiskScript.{RunsOnDisk}
use Rattle.ax_script.specs.Opening.{Refuses}
use Rattle.ax_script.specs.Progress.{Ends}
use Rattle.ax_script.proofs.AnsweredLines.{early_answered, early_opened, nothing_found, opened_tells}
use Rattle.ax_script.proofs.DiskCounts.{counts_since, fault_counted}
use Rattle.ax_script.proofs.Endings.{streams, runs_early, complete_of}
use Rattle.ax_script.proofs.OnDisk.{on_disk_early, on_disk_named}
use Rattle.ax_script.proofs.OnDisk.{serving_named, opening_refuses, early_complete, early_unserved}
use Rattle.ax_script.proofs.script_run.serve.Goals as goal

pub returns-in-Ok-clause-script : goal.returns-in-Ok-clause-script
returns-in-Ok-clause-script g c = λ honest before store.
    let old = streams (g.S.Source.rest c.args.source.now) (g.K.Sink.written c.args.sink.now)
    c.args.steps.now in
    let new = streams (g.S.Source.rest c.serve_opened.new.source)
    (g.K.Sink.written c.serve_opened.new.sink) c.serve_opened.new.steps in
    let S : List ℕ → Type 0 = λ name. IsStore before
    (g.D.Disk.history c.args.disk.now (g.D.Disk.store_named name)) in
    let R : List ℕ → Type 0 = λ name. RunsOnDisk before c.serve_opened.result old new
    (g.D.Disk.history c.args.disk.now (g.D.Disk.store_named name))
    (g.D.Disk.history c.serve_opened.new.disk (g.D.Disk.store_named name)) in
    let T : ℕ → Type 0 = λ n. Ends (IsTrue (g.D.Disk.is_honest c.open_named.new.disk)) before c.serve_opened.result
    (streams (g.S.Source.rest c.args.source.now) (g.K.Sink.written c.args.sink.now) n) new
    (g.D.Disk.history c.open_named.new.disk (g.D.Disk.attached c.open_named.new.disk))
    (g.D.Disk.history c.serve_opened.new.disk (g.D.Disk.attached c.serve_opened.new.disk)) in
    let E : Bool → Type 0 = λ h. Ends (IsTrue h) before c.serve_opened.result old new
    (g.D.Disk.history c.open_named.new.disk (g.D.Disk.attached c.open_named.new.disk))
    (g.D.Disk.history c.serve_opened.new.disk (g.D.Disk.attached c.serve_opened.new.disk)) in
    let named = subst S (sym c.store_name.ensures) store in
    subst R c.store_name.ensures
    (on_disk_named (IsTrue (g.D.Disk.is_honest c.args.disk.now)) before c.serve_opened.result old
    new
    (g.D.Disk.history c.args.disk.now) (g.D.Disk.history c.open_named.new.disk)
    (g.D.Disk.history c.serve_opened.new.disk) (g.D.Disk.store_named c.store_name.result.now)
    (g.D.Disk.attached c.open_named.new.disk) (g.D.Disk.attached c.serve_opened.new.disk)
    c.in-Ok.ensures.attached c.serve_opened.ensures.attached honest
    (c.open_named.ensures.any_moment honest before named)
    (subst E c.open_named.ensures.honest (subst T c.open_named.ensures.steps
    (c.serve_opened.ensures.script (subst IsTrue (sym c.open_named.ensures.honest) honest) before
    (c.in-Ok.ensures.holds honest before named)))))

pub returns-in-Ok-clause-answered : goal.returns-in-Ok-clause-answered
returns-in-Ok-clause-answered g c =
    let was = standing_of c.in-Ok.engine.documents in
    let new = streams (g.S.Source.rest c.serve_opened.new.source) (g.K.Sink.written c.serve_opened.new.sink) c.serve_opened.new.steps in
    let after : List ℕ → History = λ name. g.D.Disk.history c.serve_opened.new.disk (g.D.Disk.store_named name) in
    let N : List ℕ → Type 0 = λ name. TellsAnswered (g.D.Disk.is_honest c.args.disk.now) was (after name) c.serve_opened.result
    (streams (g.S.Source.rest c.args.source.now) (g.K.Sink.written c.args.sink.now) c.args.steps.now) new in
    let there : History = g.D.Disk.history c.serve_opened.new.disk (g.D.Disk.attached c.serve_opened.new.disk) in
    let T : ℕ → Type 0 = λ n. TellsAnswered (g.D.Disk.is_honest c.open_named.new.disk) was there c.serve_opened.result
    (streams (g.S.Source.rest c.args.source.now) (g.K.Sink.written c.args.sink.now) n) new in
    let H : Bool → Type 0 = λ honest. TellsAnswered honest was there c.serve_opened.result
    (streams (g.S.Source.rest c.args.source.now) (g.K.Sink.written c.args.sink.now) c.args.steps.now) new in
    let B : List ℕ → Type 0 = λ name.
    IsOpenedFrom (g.D.Disk.history c.args.disk.now (g.D.Disk.store_named name)).reads was in (
      was,
      subst N c.store_name.ensures
          (subst (λ at. TellsAnswered (g.D.Disk.is_honest c.args.disk.now) was (g.D.Disk.history c.serve_opened.new.disk at) c.serve_opened.result
          (streams (g.S.Source.rest c.args.source.now) (g.K.Sink.written c.args.sink.now) c.args.steps.now) new)
          (c.serve_opened.ensures.attached ∙ c.in-Ok.ensures.attached)
          (subst H c.open_named.ensures.honest (subst T c.open_named.ensures.steps c.serve_opened.ensures.answered))),
      opened_tells (g.D.Disk.is_honest c.args.disk.now) _ was c.serve_opened.result _ _ (λ honest. subst B c.store_name.ensures (c.in-Ok.ensures.begins honest)),
    )

pub returns-in-Err-clause-answered : goal.returns-in-Err-clause-answered
returns-in-Err-clause-answered g c = (
  nothing_found,
  early_answered (g.D.Disk.is_honest c.args.disk.now) nothing_found _ c.in-Err.status _ _ _ _ c.in-Err.ensures.only,
  early_opened (g.D.Disk.is_honest c.args.disk.now) _ nothing_found c.in-Err.status _ _ _ _ c.in-Err.ensures.only,
)

pub returns-in-Ok-clause-refused : goal.returns-in-Ok-clause-refused
returns-in-Ok-clause-refused g c = λ honest.
    let R : List ℕ → Type 0 = λ name. Refuses c.serve_opened.result
    (g.D.Disk.history c.args.disk.now (g.D.Disk.store_named name))
    (g.D.Disk.history c.serve_opened.new.disk (g.D.Disk.store_named name)) in
    subst R c.store_name.ensures
    (serving_named (g.D.Disk.is_honest c.open_named.new.disk) c.serve_opened.result
    (g.D.Disk.history c.args.disk.now) (g.D.Disk.history c.serve_opened.new.disk)
    (g.D.Disk.store_named c.store_name.result.now)
    (g.D.Disk.attached c.open_named.new.disk) (g.D.Disk.attached c.serve_opened.new.disk)
    c.in-Ok.ensures.attached c.serve_opened.ensures.attached
    (c.in-Ok.ensures.opened honest) c.serve_opened.ensures.of_serving (subst IsTrue (sym c.open_named.ensures.honest) honest))

pub returns-in-Ok-clause-within : goal.returns-in-Ok-clause-within
returns-in-Ok-clause-within g c = λ honest served.
    let R : List ℕ → Type 0 = λ name. IsWithin (g.D.Disk.history c.args.disk.now (g.D.Disk.store_named name)).reads in
    subst R c.store_name.ensures (c.in-Ok.ensures.opened honest)

pub returns-in-Err-clause-within : goal.returns-in-Err-clause-within
returns-in-Err-clause-within g c = λ honest served. absurd (early_unserved c.in-Err.status c.in-Err.ensures.only served)

pub returns-in-Err-clause-refused : goal.returns-in-Err-clause-refused
returns-in-Err-clause-refused g c = λ honest.
    let R : List ℕ → Type 0 = λ name. Refuses c.in-Err.status
    (g.D.Disk.history c.args.disk.now (g.D.Disk.store_named name))
    (g.D.Disk.history c.open_named.new.disk (g.D.Disk.store_named name)) in
    subst R c.store_name.ensures (opening_refuses c.in-Err.status _ _ (c.in-Err.ensures.tells honest))

pub returns-in-Err-clause-script : goal.returns-in-Err-clause-script
returns-in-Err-clause-script g c = λ honest before store.
    let at = streams (g.S.Source.rest c.args.source.now) (g.K.Sink.written c.args.sink.now)
    c.args.steps.now in
    let S : List ℕ → Type 0 = λ name. IsStore before
    (g.D.Disk.history c.args.disk.now (g.D.Disk.store_named name)) in
    let R : List ℕ → Type 0 = λ name. RunsOnDisk before c.in-Err.status at at
    (g.D.Disk.history c.args.disk.now (g.D.Disk.store_named name))
    (g.D.Disk.history c.open_named.new.disk (g.D.Disk.store_named name)) in
    let T : ℕ → Type 0 = λ n. RunsOnDisk before c.in-Err.status at
    (streams (g.S.Source.rest c.args.source.now) (g.K.Sink.written c.args.sink.now) n)
    (g.D.Disk.history c.args.disk.now (g.D.Disk.store_named (store_word c.args.words.now)))
    (g.D.Disk.history c.open_named.new.disk (g.D.Disk.store_named (store_word c.args.words.now))) in
    let named = subst S (sym c.store_name.ensures) store in
    subst T (sym c.open_named.ensures.steps) (subst R c.store_name.ensures
    (on_disk_early before c.in-Err.status at _ _
    (runs_early before c.in-Err.status at c.in-Err.ensures.only)
    (c.open_named.ensures.any_moment honest before named)))

pub
    returns-in-Ok-clause-complete
    : goal.returns-in-Ok-clause-complete
returns-in-Ok-clause-complete g c = λ honest before store no_disk no_read no_write.
    let S : List ℕ → Type 0 = λ name. IsStore before
    (g.D.Disk.history c.args.disk.now (g.D.Disk.store_named name)) in
    complete_of _ _ _ c.serve_opened.result
    (fault_counted c.serve_opened.result _ _
    (counts_since c.serve_opened.result _ _ _ c.in-Ok.ensures.disk_counted c.serve_opened.ensures.disk_counted))
    c.serve_opened.ensures.read_fault c.serve_opened.ensures.write_fault
    (c.serve_opened.ensures.sound (subst IsTrue (sym c.open_named.ensures.honest) honest) before
    (c.in-Ok.ensures.holds honest before (subst S (sym c.store_name.ensures) store)))
    no_disk no_read no_write

pub returns-in-Err-clause-complete : goal.returns-in-Err-clause-complete
returns-in-Err-clause-complete g c = λ honest before store no_disk no_read no_write.
    let S : List ℕ → Type 0 = λ name. IsStore before
    (g.D.Disk.history c.args.disk.now (g.D.Disk.store_named name)) in
    early_complete _ before c.in-Err.status _ _ (subst S (sym c.store_name.ensures) store)
    (c.in-Err.ensures.tells honest) c.in-Err.ensures.only
    (fault_counted c.in-Err.status _ _ c.in-Err.ensures.disk_counted) no_disk

-- ---- a store with a damaged root or of a later version

pub returns-in-Ok-clause-damaged_root : goal.returns-in-Ok-clause-damaged_root
returns-in-Ok-clause-damaged_root g c = λ honest at has.
    let S : List ℕ → Type 0 = λ name. IsDamaged newest (g.D.Disk.history c.args.disk.now (g.D.Disk.store_named name)).reads Root at in
    absurd (c.in-Ok.ensures.damaged_root honest at (subst S (sym c.store_name.ensures) has))

pub returns-in-Err-clause-damaged_root : goal.returns-in-Err-clause-damaged_root
returns-in-Err-clause-damaged_root g c = λ honest at has.
    let S : List ℕ → Type 0 = λ name. IsDamaged newest (g.D.Disk.history c.args.disk.now (g.D.Disk.store_named name)).reads Root at in
    c.in-Err.ensures.damaged_root honest at (subst S (sym c.store_name.ensures) has)

pub returns-in-Ok-clause-newer : goal.returns-in-Ok-clause-newer
returns-in-Ok-clause-newer g c = λ honest version has.
    let S : List ℕ → Type 0 = λ name. IsNewer newest version (g.D.Disk.history c.args.disk.now (g.D.Disk.store_named name)).reads in
    absurd (c.in-Ok.ensures.newer honest version (subst S (sym c.store_name.ensures) has))

pub returns-in-Err-clause-newer : goal.returns-in-Err-clause-newer
returns-in-Err-clause-newer g c = λ honest version has.
    let S : List ℕ → Type 0 = λ name. IsNewer newest version (g.D.Disk.history c.args.disk.now (g.D.Disk.store_named name)).reads in
    c.in-Err.ensures.newer honest version (subst S (sym c.store_name.ensures) has)
