-- What a crash may leave after a call, in terms of what it might have left before, whether the call succeeded or failed.
use Rattle.std.proofs.Common.{◌≡◌, ⊎_elim, ℕ, List, length, Result, Ok, Err, sym, ◌∙◌, subst}
use Rattle.ax_disk.specs.declared.extent.Extent.{Extent}
use Rattle.ax_disk.specs.model.Image.{Image}
use Rattle.ax_disk.specs.model.Pending.{Unsynced, MayLeave, after_write, after_cut}
use Rattle.ax_disk.specs.laws.PendingLaws.{all_settled_only, after_write_allows, after_cut_allows}
use Rattle.ax_disk.specs.model.Moments.{History}
use Rattle.ax_disk.specs.model.Calls.{Idles, Writes, Cuts, Syncs}

-- where nothing was done it leaves what it might have left
pub idles_leave : (old new : History) → Idles old new → (image : Image) → MayLeave new.unsynced image → MayLeave old.unsynced image
idles_leave old new idle image may = subst (λ (u : Unsynced). MayLeave u image) idle.unsynced may

module _ {T E : Type 0} where
  -- after a write, also one that failed, it leaves at most what may be left after the write
  pub writes_leave : (ext : Extent) (at : ℕ) (bytes : List ℕ) (result : Result T E) (old new : History) → Writes ext at bytes result old new → (image : Image)
      → MayLeave new.unsynced image → MayLeave (after_write ext at (length bytes) old.unsynced) image
  writes_leave ext at bytes (Ok value) old new write image may = subst (λ (u : Unsynced). MayLeave u image) write.unsynced may
  writes_leave ext at bytes (Err error) old new write image may =
      ⊎_elim
      (λ same. after_write_allows ext old.unsynced at (length bytes) image (subst (λ (u : Unsynced). MayLeave u image) same may))
      (λ torn. subst (λ (u : Unsynced). MayLeave u image) torn may)
      write.unsynced_torn

  pub cuts_leave : (ext : Extent) (len : ℕ) (result : Result T E) (old new : History) → Cuts ext len result old new → (image : Image)
      → MayLeave new.unsynced image → MayLeave (after_cut ext len old.unsynced) image
  cuts_leave ext len (Ok value) old new cut image may = subst (λ (u : Unsynced). MayLeave u image) cut.unsynced may
  cuts_leave ext len (Err error) old new cut image may =
      ⊎_elim
      (λ same. after_cut_allows ext old.unsynced len image (subst (λ (u : Unsynced). MayLeave u image) same may))
      (λ torn. subst (λ (u : Unsynced). MayLeave u image) torn may)
      cut.unsynced_torn

  -- after a sync that succeeded it leaves what reads give, and nothing else
  pub syncs_only : (value : T) (old new : History) → Syncs {E = E} (Ok value) old new → (image : Image) → MayLeave new.unsynced image → image ≡ new.reads
  syncs_only value old new sync image may = all_settled_only old.reads image (subst (λ (u : Unsynced). MayLeave u image) sync.settled may) ∙ sym sync.reads

  -- and after any sync nothing that it might not have left before
  pub syncs_leave : (result : Result T E) (old new : History) → Syncs result old new → MayLeave old.unsynced old.reads → (image : Image)
      → MayLeave new.unsynced image → MayLeave old.unsynced image
  syncs_leave (Ok value) old new sync stays image may =
      let only = all_settled_only old.reads image (subst (λ (u : Unsynced). MayLeave u image) sync.settled may) in
      subst (λ (i : Image). MayLeave old.unsynced i) (sym only) stays
  syncs_leave (Err error) old new sync stays image may = subst (λ (u : Unsynced). MayLeave u image) sync.unsynced may
