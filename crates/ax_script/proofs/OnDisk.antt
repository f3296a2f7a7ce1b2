-- What a run left on its disk, by the way in which it ended.
use Rattle.std.proofs.Common.{◌≡◌, ◌⊎◌, inl, inr, ⊎_elim, ℕ, Bool, IsTrue, List, [], ◌∷◌, length, refl, sym}
use Rattle.std.proofs.Common.{subst, ap, arith}
use Rattle.ax_disk.specs.model.Image.{Image}
use Rattle.ax_disk.specs.model.Pending.{MayLeave}
use Rattle.ax_disk.specs.model.Moments.{History}
use Rattle.ax_disk.specs.model.Stays.{Rests, SinceBarrier}
use Rattle.ax_disk.specs.laws.MomentLaws.{progress_within, elapses_start, progress_stays}
use Rattle.ax_disk.specs.laws.StageLaws.{barrier_progress}
use Rattle.ax_disk.specs.laws.StaysLaws.{idles_start, rests_weaken}
use Rattle.ax_store.proofs.StoreLemmas.{barrier_weaken}
use Rattle.ax_container.specs.Container.{Container}
use Rattle.ax_image_pairs.specs.Indexed.{StandsForAll}
use Rattle.ax_machine.specs.Run.{Exchange, after_lines}
use Rattle.ax_script.specs.declared.status.Status.{Status}
use Rattle.ax_script.specs.declared.status.Status.TheVariants as status
use Rattle.ax_documents.specs.Opening.{IsStore, IsImageOf, IsWithin}
use Rattle.ax_script.specs.DiskScript.{StandsAfter, KeepsAcknowledged, RunsOnDisk}
use Rattle.ax_script.specs.Opening.{Refuses, RefusesOpening, TellsServed}
use Rattle.ax_script.specs.Progress.{Reaches, EndsEarly, Ends, EndsServing}
use Rattle.ax_script.specs.Streams.{Streams}
use Rattle.ax_script.proofs.DiskMoments.{reaches_keeps}
use Rattle.ax_script.proofs.Endings.{EarlyRun}
use Rattle.ax_engine.proofs.Opened.{idle_since, not_refused, not_newer}
use Rattle.ax_script.proofs.Attached.{of_name}

-- ---- no line was served

none_served : (before : Container) (run : List Exchange) → after_lines 0 before run ≡ before
none_served before [] = refl
none_served before (x ∷ xs) = refl

begins : (before : Container) (run : List Exchange) (image : Image) → IsImageOf before image
    → StandsForAll image (after_lines 0 before run)
begins before run image shows = subst (StandsForAll image) (sym (none_served before run)) shows

begins_after : (before : Container) (run : List Exchange) (image : Image) → IsImageOf before image
    → StandsAfter before run 0 image
begins_after before run image shows = inl (begins before run image shows)

since_begins : (before : Container) (run : List Exchange) (entry exit : History)
    → SinceBarrier entry exit (IsImageOf before) → SinceBarrier entry exit (StandsAfter before run 0)
since_begins before run entry exit since =
    barrier_weaken entry exit (IsImageOf before) (StandsAfter before run 0) (begins_after before run) since

keeps_none : (before : Container) (run : List Exchange) (text : List ℕ) (image : Image) → run ≡ []
    → IsImageOf before image → KeepsAcknowledged before run text image
keeps_none before run text image none shows = record {
  count = 0;
  within = omega arith;
  stands = begins before run image shows;
  acknowledged = λ lines are. omega (arith, are.within, ap length none);
}

-- the run ended before it took a line
pub on_disk_early : (before : Container) (ended : Status) (at : Streams) (entry exit : History)
    → EarlyRun before ended at → SinceBarrier entry exit (IsImageOf before)
    → RunsOnDisk before ended at at entry exit
on_disk_early before ended at entry exit early since =
    let script = early.script in
    record {
      script = script;
      moments = barrier_progress entry exit exit (length script.run) (StandsAfter before script.run)
          (since_begins before script.run entry exit since)
          (progress_within exit exit 0 0 0 (length script.run) (StandsAfter before script.run)
          (omega arith) (omega arith)
          (progress_stays exit exit 0 (StandsAfter before script.run)
          (elapses_start exit (λ _ image. StandsAfter before script.run 0 image))));
      at_exit = ⊎_elim
          (λ (may : Rests exit (MayLeave entry.unsynced)). inr (early.no_text, may))
          (λ (shows : Rests exit (IsImageOf before)). inl (rests_weaken exit (IsImageOf before)
          (KeepsAcknowledged before script.run script.text)
          (λ image has. keeps_none before script.run script.text image early.no_line has) shows))
          since.rests;
    }

-- it ended before it touched the disk
pub on_disk_untouched : (before : Container) (ended : Status) (at : Streams) (entry : History)
    → EarlyRun before ended at → RunsOnDisk before ended at at entry entry
on_disk_untouched before ended at entry early =
    on_disk_early before ended at entry entry early
    (idle_since entry entry (IsImageOf before) (idles_start entry))

-- ---- the store was opened, and lines were served

pub on_disk_served : (honest : Type 0) (before : Container) (ended : Status) (old new : Streams)
    (entry mid exit : History) → honest → SinceBarrier entry mid (IsImageOf before)
    → Ends honest before ended old new mid exit → RunsOnDisk before ended old new entry exit
on_disk_served honest before ended old new entry mid exit h since ends =
    let script = ends.script in
    record {
      script = script;
      moments = barrier_progress entry mid exit (length script.run) (StandsAfter before script.run)
          (since_begins before script.run entry mid since) (ends.disk.moments h);
      at_exit = inl (rests_weaken exit (Reaches before script.run script.text)
          (KeepsAcknowledged before script.run script.text)
          (reaches_keeps before script.run script.text) (ends.disk.rests h));
    }

-- the same of the store of a name, which is the one attached
pub on_disk_named : (honest : Type 0) (before : Container) (ended : Status) (old new : Streams)
    (entry mid exit : List ℕ → History) (name there now : List ℕ) → there ≡ name → now ≡ there
    → honest → SinceBarrier (entry name) (mid name) (IsImageOf before)
    → Ends honest before ended old new (mid there) (exit now)
    → RunsOnDisk before ended old new (entry name) (exit name)
on_disk_named honest before ended old new entry mid exit name there now is still h since ends =
    on_disk_served honest before ended old new (entry name) (mid name) (exit name) h since
    (of_name (λ x y. Ends honest before ended old new x y) mid exit name there now is still ends)

-- ---- the statuses of a run whose disk, source and sink did not fail

-- a status of serving gives no cause in the store but a document whose text is none
pub serving_refuses : (honest : Bool) (ended : Status) (old new : History) → IsWithin old.reads → EndsServing honest ended new → IsTrue honest
    → Refuses ended old new
serving_refuses honest status.Done old new within is h = tt
serving_refuses honest status.Words old new within is h = absurd is
serving_refuses honest status.DiskFault old new within is h = tt
serving_refuses honest status.ReadFault old new within is h = tt
serving_refuses honest status.WriteFault old new within is h = tt
serving_refuses honest (status.Damaged extent at) old new within is h = inr (within, is h)
serving_refuses honest (status.Newer version) old new within is h = absurd is
serving_refuses honest status.Memory old new within is h = tt
serving_refuses honest status.Long old new within is h = tt

-- the same of the store of a name, which is the one attached
pub serving_named : (honest : Bool) (ended : Status) (old new : List ℕ → History) (name there now : List ℕ) → there ≡ name → now ≡ there
    → IsWithin (old name).reads → EndsServing honest ended (new now) → IsTrue honest
    → Refuses ended (old name) (new name)
serving_named honest ended old new name there now is still within ends h =
    serving_refuses honest ended (old name) (new name) within
    (of_name (λ x y. EndsServing honest ended y) new new name there now is still ends) h

-- why opening refuses is why the run does
pub opening_refuses : (ended : Status) (old new : History) → RefusesOpening ended old new → Refuses ended old new
opening_refuses status.Done old new why = tt
opening_refuses status.Words old new why = tt
opening_refuses status.DiskFault old new why = tt
opening_refuses status.ReadFault old new why = tt
opening_refuses status.WriteFault old new why = tt
opening_refuses (status.Damaged extent at) old new why = inl why
opening_refuses (status.Newer version) old new why = why
opening_refuses status.Memory old new why = tt
opening_refuses status.Long old new why = tt

-- a run that ended before it took a line does not tell that the store was served
pub early_unserved : (ended : Status) → EndsEarly ended → TellsServed ended → ⊥
early_unserved status.DiskFault early served = served
early_unserved (status.Damaged extent at) early served = served
early_unserved (status.Newer version) early served = served
early_unserved status.Memory early served = served
early_unserved status.Done early served = early
early_unserved status.Words early served = early
early_unserved status.ReadFault early served = early
early_unserved status.WriteFault early served = early
early_unserved status.Long early served = early

pub serving_not_words : (honest : Bool) (ended : Status) (new : History) → EndsServing honest ended new → ended ≡ status.Words → ⊥
serving_not_words honest status.Words new is e = absurd is
serving_not_words honest status.Done new is e = cc
serving_not_words honest status.DiskFault new is e = cc
serving_not_words honest status.ReadFault new is e = cc
serving_not_words honest status.WriteFault new is e = cc
serving_not_words honest (status.Damaged extent at) new is e = cc
serving_not_words honest (status.Newer version) new is e = cc
serving_not_words honest status.Memory new is e = cc
serving_not_words honest status.Long new is e = cc

pub early_not_words : (ended : Status) → EndsEarly ended → ended ≡ status.Words → ⊥
early_not_words status.Words is e = absurd is
early_not_words status.Done is e = cc
early_not_words status.DiskFault is e = cc
early_not_words status.ReadFault is e = cc
early_not_words status.WriteFault is e = cc
early_not_words (status.Damaged extent at) is e = cc
early_not_words (status.Newer version) is e = cc
early_not_words status.Memory is e = cc
early_not_words status.Long is e = cc

-- over a store that stands for a container opening ends a run for a fault or for want of memory
pub early_complete : (DiskRose : Type 0) (before : Container) (ended : Status) (old new : History)
    → IsStore before old → RefusesOpening ended old new → EndsEarly ended
    → (ended ≡ status.DiskFault → DiskRose) → (DiskRose → ⊥)
    → (ended ≡ status.Done) ⊎ (ended ≡ status.Memory) ⊎ (ended ≡ status.Long)
early_complete D before status.DiskFault old new store refuses early disk no_disk =
    absurd (no_disk (disk refl))
early_complete D before (status.Damaged extent at) old new store refuses early disk no_disk =
    absurd (not_refused old.reads before extent at store.reads refuses.0)
early_complete D before (status.Newer version) old new store refuses early disk no_disk =
    absurd (not_newer old.reads before version store.reads refuses.0)
early_complete D before status.Memory old new store refuses early disk no_disk = inr (inl refl)
early_complete D before status.Done old new store refuses early disk no_disk = absurd early
early_complete D before status.Words old new store refuses early disk no_disk = absurd early
early_complete D before status.ReadFault old new store refuses early disk no_disk = absurd early
early_complete D before status.WriteFault old new store refuses early disk no_disk = absurd early
early_complete D before status.Long old new store refuses early disk no_disk = absurd early
