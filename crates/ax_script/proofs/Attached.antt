-- A store that is attached by its name, and then opened.
use Rattle.std.proofs.Common.{◌≡◌, ◌⊎◌, inl, inr, ℕ, List, Result, Ok, Err, sym, subst, ap, ◌∙◌}
use Rattle.ax_disk.specs.model.Image.{Image}
use Rattle.ax_disk.specs.model.Pending.{Unsynced, MayLeave}
use Rattle.ax_disk.specs.model.Moments.{History, Progresses}
use Rattle.ax_disk.specs.model.Calls.{Idles}
use Rattle.ax_disk.specs.model.Stays.{Rests, Stays, BarrierStage, SinceBarrier}
use Rattle.ax_disk.specs.laws.MomentLaws.{progress_stays, progress_join}
use Rattle.ax_disk.specs.laws.StaysLaws.{idles_stay, stays_join}
use Rattle.ax_area.specs.Image.{IsNewer}
use Rattle.ax_log.specs.Opening.{Keeps}
use Rattle.ax_store.specs.declared.fault.StoreFault.{StoreFault}
use Rattle.ax_store.specs.declared.fault.StoreFault.TheVariants as fault
use Rattle.ax_container.specs.Container.{Container}
use Rattle.ax_image.specs.Readable.{newest}
use Rattle.ax_image_pairs.specs.Indexed.{StandsForAll}
use Rattle.ax_documents.specs.Opening.{IsAnswerUnlessDisk, IsRefusedAt, RefusesBy}
use Rattle.ax_documents.specs.Opening.{IsStore, IsImageOf, IsWithin}
use Rattle.ax_script.specs.Opening.{IsEndUnlessDisk}
use Rattle.ax_script.specs.declared.status.Status.{Status}
use Rattle.ax_script.specs.declared.status.Status.TheVariants as status

-- ---- a barrier, behind a call that changes nothing

pub since_idle : (old mid new : History) (P : Image → Type 0) → Idles old mid
    → SinceBarrier mid new P → SinceBarrier old new P
since_idle old mid new P idle since = record {
  stages = progress_join old mid new 0 0 1 (BarrierStage old.unsynced (λ _ image. P image))
      (progress_stays old mid 0 (BarrierStage old.unsynced (λ _ image. P image)) idle.time)
      (subst (λ (u : Unsynced). Progresses mid new 0 1 (BarrierStage u (λ _ image. P image)))
      idle.unsynced since.stages);
  rests = subst (λ (u : Unsynced). Rests new (MayLeave u) ⊎ Rests new P) idle.unsynced since.rests;
}

pub keeps_since : (old mid new : History) → Idles old mid → Keeps mid new → Keeps old new
keeps_since old mid new idle keeps = record {
  reads = keeps.reads ∙ idle.reads;
  stays = stays_join old mid new (MayLeave old.unsynced)
      (idles_stay old mid (MayLeave old.unsynced) (record { each = λ image may. may }) idle)
      (subst (λ (u : Unsynced). Stays mid new (MayLeave u)) idle.unsynced keeps.stays);
}

-- ---- the store of a name was attached, and opened

-- what holds of the store attached holds of the one of the name
pub of_name : (T : History → History → Type 0) (mid new : List ℕ → History) (name there now : List ℕ)
    → there ≡ name → now ≡ there → T (mid there) (new now) → T (mid name) (new name)
of_name T mid new name there now is still t =
    subst (λ (s : List ℕ). T (mid s) (new s)) is
    (subst (λ (s : List ℕ). T (mid there) (new s)) still t)

module _ (old mid new : List ℕ → History) (name there now : List ℕ) (is : there ≡ name)
    (still : now ≡ there) (idle : Idles (old name) (mid name)) where
  reads_are : (mid there).reads ≡ (old name).reads
  reads_are = ap (λ (s : List ℕ). (mid s).reads) is ∙ idle.reads

  unsynced_are : (mid there).unsynced ≡ (old name).unsynced
  unsynced_are = ap (λ (s : List ℕ). (mid s).unsynced) is ∙ idle.unsynced

  -- the store attached is the one that was named
  pub store_there : (before : Container) → IsStore before (old name) → IsStore before (mid there)
  store_there before store = record {
    each = record {
      each = λ image may. store.each.each image
          (subst (λ (u : Unsynced). MayLeave u image) unsynced_are may);
    };
    reads = subst (λ (image : Image). StandsForAll image before) (sym reads_are) store.reads;
  }

  -- and so is its image
  pub image_there : (P : Image → Type 0) → P (old name).reads → P (mid there).reads
  image_there P has = subst P (sym reads_are) has

  pub image_named : (P : Image → Type 0) → P (mid there).reads → P (old name).reads
  image_named P has = subst P reads_are has

  -- and what it says
  pub within_named : IsWithin (mid there).reads → IsWithin (old name).reads
  within_named within = image_named IsWithin within

  pub since_named : (before : Container) → SinceBarrier (mid there) (new now) (IsImageOf before)
      → SinceBarrier (old name) (new name) (IsImageOf before)
  since_named before since =
      since_idle (old name) (mid name) (new name) (IsImageOf before) idle
      (of_name (λ x y. SinceBarrier x y (IsImageOf before)) mid new name there now is still since)

  pub refuses_named : (why : StoreFault) → RefusesBy why (mid there) (new now)
      → RefusesBy why (old name) (new name)
  refuses_named (fault.Damaged extent at) refused = (
    subst (λ (image : Image). IsRefusedAt image extent at) reads_are refused.0,
    keeps_since (old name) (mid name) (new name) idle
        (of_name Keeps mid new name there now is still refused.1),
  )
  refuses_named (fault.Newer version) refused = (
    subst (λ (image : Image). IsNewer newest version image) reads_are refused.0,
    keeps_since (old name) (mid name) (new name) idle
        (of_name Keeps mid new name there now is still refused.1),
  )
  refuses_named fault.Disk refused = tt
  refuses_named fault.Memory refused = tt

-- ---- why the store was refused

-- the status of a store's fault
abbrev pub status_of : StoreFault → Status
status_of fault.Disk = status.DiskFault
status_of (fault.Damaged extent at) = status.Damaged extent at
status_of (fault.Newer version) = status.Newer version
status_of fault.Memory = status.Memory

abbrev ended_by : {T : Type 0} → Result T StoreFault → Status
ended_by (Ok opened) = status.Done
ended_by (Err why) = status_of why

abbrev fault_or : {T : Type 0} → StoreFault → Result T StoreFault → StoreFault
fault_or none (Ok opened) = none
fault_or none (Err why) = why

one_fault : {T : Type 0} (found why : StoreFault) → ◌≡◌ {A = Result T StoreFault} (Err found) (Err why) → found ≡ why
one_fault found why is = ap (fault_or why) is

-- it is told as what it is
pub told_refused : {T : Type 0} (why found : StoreFault) → IsAnswerUnlessDisk {T = T} why (Err found)
    → IsEndUnlessDisk (status_of why) (status_of found)
told_refused why found (inl is) = inl (ap ended_by is)
told_refused why found (inr is) = inr (ap ended_by is)

-- another answer is none for it
pub other_refused : {T : Type 0} (why found given : StoreFault) → found ≡ given → (given ≡ why → ⊥)
    → (given ≡ fault.Disk → ⊥) → IsAnswerUnlessDisk {T = T} why (Err found) → ⊥
other_refused why found given same other no_disk (inl is) = other (sym same ∙ one_fault found why is)
other_refused why found given same other no_disk (inr is) = no_disk (sym same ∙ one_fault found fault.Disk is)

-- and such a store was not opened
pub not_opened : {T : Type 0} (opened : T) (why : StoreFault) → IsAnswerUnlessDisk {T = T} why (Ok opened) → ⊥
not_opened opened why (inl is) = cc
not_opened opened why (inr is) = cc
