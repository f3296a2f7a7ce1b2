-- What opening a log tells, at each of its answers.
use Rattle.std.proofs.Common.{◌≡◌, ◌≢◌, inl, inr, ℕ, ◌<◌, ◌≤◌, List, [], Result, Err, refl, sym, ◌∙◌, ap, subst}
use Rattle.ax_disk.specs.declared.extent.Extent.{Extent}
use Rattle.ax_disk.specs.declared.extent.Extent.TheVariants.{Root, A, B}
use Rattle.ax_disk.specs.model.Image.{Image, list_of}
use Rattle.ax_disk.specs.model.Pending.{MayLeave, all_settled}
use Rattle.ax_disk.specs.model.Moments.{History}
use Rattle.ax_disk.specs.model.Calls.{Idles, Syncs}
use Rattle.ax_disk.specs.model.Stays.{Rests, Stays}
use Rattle.ax_disk.specs.laws.StaysLaws.{idles_rest, idles_stay, stays_join, stays_weaken, syncs_stay, settled_rests}
use Rattle.ax_pages.specs.declared.numbers.TheConstants.{NEWEST_VERSION}
use Rattle.ax_area.specs.declared.root.Counting.{Counting}
use Rattle.ax_area.specs.declared.root.RootChoice.{RootChoice}
use Rattle.ax_area.specs.declared.root.RootChoice.TheVariants.{Counts, Damaged as DamagedRoot}
use Rattle.ax_area.specs.Root.{IsRoot, IsKnown, slot_offset, last_generation}
use Rattle.ax_area.specs.Image.{IsFresh, IsBrokenArea, IsBrokenImage, IsNewer, HasFrames}
use Rattle.ax_area.proofs.OneRoot.{counts_named}
use Rattle.ax_area.proofs.OneImage.{one_frames}
use Rattle.ax_log.specs.declared.log.Log.{Log}
use Rattle.ax_log.specs.declared.fault.LogFault.{LogFault}
use Rattle.ax_log.specs.declared.fault.LogFault.TheVariants.{Disk, Damaged, Newer, Memory}
use Rattle.ax_log.specs.Log.{log_slot, log_area, log_end}
use Rattle.ax_log.specs.Agreement.{HasLog, Agrees}
use Rattle.ax_log.specs.Walk.{EndsAt, IsEndOf}
use Rattle.ax_log.specs.Forming.{formed_image, formed_slot, IsForming}
use Rattle.ax_log.specs.Opening.{IsOpened, IsDamagedAt, Tells, Keeps}

-- ---- a live store

pub found_log : (log : Log) (old new : History)
    → IsRoot old.reads.root (Counts (log_slot log)) → IsKnown NEWEST_VERSION (log_slot log)
    → EndsAt (list_of (log_area log) old.reads) (log_end log)
    → old.unsynced ≡ all_settled old.reads → Idles old new → IsOpened log old.reads new
found_log log old new counts known ends settled idle =
    let rests = settled_rests old (HasLog old.reads.root (log_area log) ends.frames) settled
    (record { root_is = refl; has = ends.area }) in
    record {
      frames = ends.frames;
      agrees = record {
        counts = subst (λ (i : Image). IsRoot i.root (Counts (log_slot log))) (sym idle.reads) counts;
        known = known;
        end_is = ends.place;
        rests = subst (λ (i : Image). Rests new (HasLog i.root (log_area log) ends.frames))
            (sym idle.reads) (idles_rest old new
            (HasLog old.reads.root (log_area log) ends.frames) rests idle);
      };
      from = inr (record { counts = counts; known = known; has = ends.area });
    }

damaged_area : (image : Image) (area : Extent) (at : ℕ) → area ≢ Root
    → IsBrokenArea NEWEST_VERSION area at image → IsBrokenImage NEWEST_VERSION image area at
damaged_area image Root at apart broken = absurd (apart refl)
damaged_area image A at apart broken = broken
damaged_area image B at apart broken = broken

pub broken_told : (slot : Counting) (image : Image) (history : History)
    (fault : LogFault) → IsRoot image.root (Counts slot) → IsKnown NEWEST_VERSION slot
    → IsEndOf slot.area (list_of slot.area image) (Err fault)
    → Tells (Err fault) image history
broken_told slot image history Disk counts known is = tt
broken_told slot image history (Damaged extent at) counts known is = record {
  list = slot.area;
  number = is.0;
  damaged = damaged_area image slot.area at (counts_named image.root slot counts).1
      (record { slot = slot; area_is = refl; counts = counts; known = known; broken = is.1 });
}
broken_told slot image history (Newer version) counts known is = absurd is
broken_told slot image history Memory counts known is = record { slot = slot; counts = counts; known = known }

-- ---- a fresh store

pub formed_log : (log : Log) (before : Image) (new : History) → IsFresh before → Agrees log [] new
    → log_slot log ≡ formed_slot → new.reads ≡ formed_image → IsOpened log before new
formed_log log before new fresh agrees slot_is reads_are = record {
  frames = [];
  agrees = agrees;
  from = inl (fresh, refl, slot_is, reads_are);
}

forming_has_none : (image : Image) → IsForming image → HasFrames NEWEST_VERSION [] image
forming_has_none image (inl fresh) = inl (fresh, refl)
forming_has_none image (inr live) = inr (formed_slot, live)

-- ---- recovery, once the root was read

module _ (old mid : History) (settled : old.unsynced ≡ all_settled old.reads)
    (idle : Idles old mid) where
  pub settled_then : mid.unsynced ≡ all_settled mid.reads
  settled_then = idle.unsynced ∙ settled ∙ ap all_settled (sym idle.reads)

  pub root_then : (choice : RootChoice) → IsRoot old.reads.root choice
      → IsRoot mid.reads.root choice
  root_then choice is = subst (λ (i : Image). IsRoot i.root choice) (sym idle.reads) is

  pub told_then : (result : Result Log LogFault) (new : History) → Tells result mid.reads new
      → Tells result old.reads new
  told_then result new tells = subst (λ (i : Image). Tells result i new) idle.reads tells

  pub frames_stay : (frames : List (List ℕ)) → HasFrames NEWEST_VERSION frames old.reads
      → Stays old mid (HasFrames NEWEST_VERSION frames)
  frames_stay frames has = idles_stay old mid (HasFrames NEWEST_VERSION frames)
      (settled_rests old (HasFrames NEWEST_VERSION frames) settled has) idle

  pub frames_stay_on : (new : History) (frames : List (List ℕ)) → HasFrames NEWEST_VERSION frames old.reads
      → Idles mid new → Stays old new (HasFrames NEWEST_VERSION frames)
  frames_stay_on new frames has on =
      let first = frames_stay frames has in
      stays_join old mid new (HasFrames NEWEST_VERSION frames) first
      (idles_stay mid new (HasFrames NEWEST_VERSION frames) first.rests on)

  pub fresh_frames_stay : (new : History) (frames : List (List ℕ)) → HasFrames NEWEST_VERSION frames old.reads
      → IsFresh old.reads → Stays mid new IsForming → Stays old new (HasFrames NEWEST_VERSION frames)
  fresh_frames_stay new frames has fresh formed =
      let none : frames ≡ [] = one_frames NEWEST_VERSION old.reads frames [] has (inl (fresh, refl)) in
      stays_join old mid new (HasFrames NEWEST_VERSION frames) (frames_stay frames has)
      (subst (λ (fs : List (List ℕ)). Stays mid new (HasFrames NEWEST_VERSION fs)) (sym none)
      (stays_weaken mid new IsForming (HasFrames NEWEST_VERSION []) forming_has_none formed))

  -- nothing was done yet, or a store is formed then
  pub forming_still : IsFresh old.reads → Stays old mid IsForming
  forming_still fresh = idles_stay old mid IsForming (settled_rests old IsForming settled (inl fresh)) idle

  pub forming_stays : (new : History) → IsFresh old.reads → Stays mid new IsForming → Stays old new IsForming
  forming_stays new fresh formed = stays_join old mid new IsForming (forming_still fresh) formed

pub root_damaged : (image : Image) (at : ℕ) → IsRoot image.root (DamagedRoot at) → IsDamagedAt image 0 at
root_damaged image at damaged = record { list = Root; number = refl; damaged = inl damaged }

pub worn_told : (image : Image) (at : ℕ) (slot : Counting) → at ≡ slot_offset slot.which
    → (slot.version < NEWEST_VERSION) × (last_generation ≤ slot.generation) → IsRoot image.root (Counts slot)
    → IsDamagedAt image 0 at
worn_told image at slot is worn counts = record {
  list = Root;
  number = refl;
  damaged = inr (record { slot = slot; at_is = sym is; counts = counts; older = worn.0; last = worn.1 });
}

pub newer_told : (image : Image) (slot : Counting) → NEWEST_VERSION < slot.version → IsRoot image.root (Counts slot)
    → IsNewer NEWEST_VERSION slot.version image
newer_told image slot later counts = record { slot = slot; version_is = refl; counts = counts; later = later }

-- ---- the barrier

entry_rests : (old : History) → Rests old (MayLeave old.unsynced)
entry_rests old = record { each = λ image may. may }

module _ {T E : Type 0} (old mid : History) (stays : MayLeave old.unsynced old.reads) where
  pub sync_keeps : (result : Result T E) → Syncs result old mid → Keeps old mid
  sync_keeps result sync = record {
    reads = sync.reads;
    stays = syncs_stay result old mid (MayLeave old.unsynced) (entry_rests old) stays sync;
  }

  pub sync_keeps_on : (result : Result T E) (new : History) → Syncs result old mid → Idles mid new
      → Keeps old new
  sync_keeps_on result new sync idle =
      let first = sync_keeps result sync in
      record {
        reads = idle.reads ∙ first.reads;
        stays = stays_join old mid new (MayLeave old.unsynced) first.stays
            (idles_stay mid new (MayLeave old.unsynced) first.stays.rests idle);
      }

pub told_since : (one other : Image) (result : Result Log LogFault) (new : History) → one ≡ other
    → Tells result one new → Tells result other new
told_since one other result new same tells = subst (λ (i : Image). Tells result i new) same tells
