-- Laws of what holds of all images: how calls one after another join, and what each call of a disk
-- does, Ok or not.
use Rattle.std.proofs.Common.{◌≡◌, ◌⊎◌, inl, inr, ⊎_elim, ℕ, ◌≤◌, List, length, Result, Ok, refl, sym, ◌∙◌, ap, subst}
use Rattle.ax_disk.specs.declared.extent.Extent.{Extent}
use Rattle.ax_disk.specs.model.Image.{Image, list_of}
use Rattle.ax_disk.specs.model.Pending.{MayLeave, Unsynced, all_settled, after_write, after_cut}
use Rattle.ax_disk.specs.model.Moments.{History}
use Rattle.ax_disk.specs.model.Calls.{Idles, Writes, Cuts, Syncs}
use Rattle.ax_disk.specs.model.Stays.{Rests, Stays, Turns}
use Rattle.ax_disk.specs.laws.PendingLaws.{all_settled_only}
use Rattle.ax_disk.specs.laws.MomentLaws.{elapses_start, elapses_join, elapses_with}
use Rattle.ax_disk.specs.laws.CallLaws.{idles_leave, writes_leave, cuts_leave, syncs_only, syncs_leave}
use Rattle.ax_disk.specs.laws.WriteLaws.{WriteFrom, write_from_before, CutImageFrom, cut_from_before}

-- ---- joining and weakening

pub idles_join : (old mid new : History) → Idles old mid → Idles mid new → Idles old new
idles_join old mid new first second = record {
  reads = second.reads ∙ first.reads;
  unsynced = second.unsynced ∙ first.unsynced;
  time = elapses_join old mid new (λ _ image. MayLeave old.unsynced image) first.time
      (elapses_with mid new (MayLeave mid.unsynced) (MayLeave old.unsynced)
      (idles_leave old mid first) second.time);
}

pub idles_start : (history : History) → Idles history history
idles_start history = record {
  reads = refl;
  unsynced = refl;
  time = elapses_start history (λ _ image. MayLeave history.unsynced image);
}

pub rests_weaken : (history : History) (P Q : Image → Type 0)
    → ((image : Image) → P image → Q image) → Rests history P → Rests history Q
rests_weaken history P Q follows rests = record {
  each = λ image may. follows image
      (rests.each image may);
}

pub stays_weaken : (old new : History) (P Q : Image → Type 0)
    → ((image : Image) → P image → Q image) → Stays old new P → Stays old new Q
stays_weaken old new P Q follows stays = record {
  time = elapses_with old new P Q follows stays.time;
  rests = rests_weaken new P Q follows stays.rests;
}

pub stays_join : (old mid new : History) (P : Image → Type 0) → Stays old mid P → Stays mid new P
    → Stays old new P
stays_join old mid new P first second = record {
  time = elapses_join old mid new (λ _ image. P image) first.time second.time;
  rests = second.rests;
}

pub stays_turn : (old new : History) (P Q : Image → Type 0) → Stays old new P → Turns old new P Q
stays_turn old new P Q stays = stays_weaken old new P (λ image. P image ⊎ Q image)
    (λ image has. inl has) stays

pub turns_weaken : (old new : History) (P P' Q Q' : Image → Type 0)
    → ((image : Image) → P image → P' image) → ((image : Image) → Q image → Q' image)
    → Turns old new P Q
    → Turns old new P' Q'
turns_weaken old new P P' Q Q' first second turns =
    stays_weaken old new (λ image. P image ⊎ Q image) (λ image. P' image ⊎ Q' image)
    (λ image either. ⊎_elim (λ has. inl (first image has))
    (λ has. inr (second image has)) either) turns

-- ---- one law for each call

-- before the first call
pub stays_start : (history : History) (P : Image → Type 0) → Rests history P
    → Stays history history P
stays_start history P rests = record {
  time = elapses_start history (λ _ image. P image);
  rests = rests;
}

-- a call that changes nothing
pub idles_rest : (old new : History) (P : Image → Type 0) → Rests old P → Idles old new
    → Rests new P
idles_rest old new P rests idle = record {
  each = λ image may. rests.each image
      (idles_leave old new idle image may);
}

pub idles_stay : (old new : History) (P : Image → Type 0) → Rests old P → Idles old new
    → Stays old new P
idles_stay old new P rests idle = record {
  time = elapses_with old new (MayLeave old.unsynced) P rests.each idle.time;
  rests = idles_rest old new P rests idle;
}

module _ {T E : Type 0} where
  -- a write: P of all that may be left after it
  pub writes_stay : (ext : Extent) (at : ℕ) (bytes : List ℕ) (result : Result T E)
      (old new : History) (P : Image → Type 0)
      → ((image : Image) → MayLeave (after_write ext at (length bytes) old.unsynced) image
      → P image) → Writes ext at bytes result old new → Stays old new P
  writes_stay ext at bytes result old new P all write = record {
    time = elapses_with old new (MayLeave (after_write ext at (length bytes) old.unsynced)) P all
        write.time;
    rests = record {
      each = λ image may. all image
          (writes_leave ext at bytes result old new write image may);
    };
  }

  -- a write, by what each image has of the one from before it
  pub writes_keep : (ext : Extent) (at : ℕ) (bytes : List ℕ) (result : Result T E)
      (old new : History) (P Q : Image → Type 0)
      → MayLeave old.unsynced old.reads → at ≤ length (list_of ext old.reads) → Rests old P
      → ((image : Image) → (from : WriteFrom ext at old.unsynced image) → P from.before → Q image)
      → Writes ext at bytes result old new → Stays old new Q
  writes_keep ext at bytes result old new P Q stays within rests follows write =
      writes_stay ext at bytes result old new Q
      (λ image may.
      let from = write_from_before ext old.unsynced old.reads at
      (length bytes) stays within image may in
      follows image from (rests.each from.before from.may))
      write

  -- a cut
  pub cuts_stay : (ext : Extent) (len : ℕ) (result : Result T E) (old new : History)
      (P : Image → Type 0)
      → ((image : Image) → MayLeave (after_cut ext len old.unsynced) image → P image)
      → Cuts ext len result old new → Stays old new P
  cuts_stay ext len result old new P all cut = record {
    time = elapses_with old new (MayLeave (after_cut ext len old.unsynced)) P all cut.time;
    rests = record {
      each = λ image may. all image
          (cuts_leave ext len result old new cut image may);
    };
  }

  -- a cut, by what each image has of the one from before it
  pub cuts_keep : (ext : Extent) (len : ℕ) (result : Result T E) (old new : History)
      (P Q : Image → Type 0)
      → MayLeave old.unsynced old.reads → Rests old P
      → ((image : Image) → (from : CutImageFrom ext old.unsynced image) → P from.before → Q image)
      → Cuts ext len result old new → Stays old new Q
  cuts_keep ext len result old new P Q stays rests follows cut =
      cuts_stay ext len result old new Q
      (λ image may.
      let from = cut_from_before ext old.unsynced old.reads len stays image may in
      follows image from (rests.each from.before from.may))
      cut

  -- a sync, that succeeded or not
  pub syncs_stay : (result : Result T E) (old new : History) (P : Image → Type 0) → Rests old P
      → MayLeave old.unsynced old.reads → Syncs result old new → Stays old new P
  syncs_stay result old new P rests stays sync = record {
    time = elapses_with old new (MayLeave old.unsynced) P rests.each sync.time;
    rests = record {
      each = λ image may. rests.each image
          (syncs_leave result old new sync stays image may);
    };
  }

  -- after one that succeeded it is enough that what reads give has P
  pub synced_rests : (value : T) (old new : History) (P : Image → Type 0) → P old.reads
      → Syncs {E = E} (Ok value) old new → Rests new P
  synced_rests value old new P has sync = record {
    each = λ image may. subst P (sym (syncs_only value old new sync image may ∙ sync.reads)) has;
  }

  -- and all three lists are settled
  pub synced_settled : (value : T) (old new : History) → Syncs {E = E} (Ok value) old new
      → new.unsynced ≡ all_settled new.reads
  synced_settled value old new sync = sync.settled ∙ ap all_settled (sym sync.reads)

-- where all three lists are settled, what reads give is all that a crash may leave
pub settled_rests : (history : History) (P : Image → Type 0)
    → history.unsynced ≡ all_settled history.reads → P history.reads → Rests history P
settled_rests history P settled has = record {
  each = λ image may. subst P (sym (all_settled_only history.reads image
      (subst (λ (u : Unsynced). MayLeave u image) settled may))) has;
}
