-- What calls that read leave: the pages as they were, the agreement with the disk until the store has failed,
-- the disk's lists, and the bytes of slots that others have.
-- It is this project's own; it comes from no public document.
use Rattle.std.specs.Prelude.{◌≡◌, ℕ, ◌≤◌, Bool, IsTrue}
use Rattle.ax_disk.specs.model.Moments.{History}
use Rattle.ax_disk.specs.model.Calls.{Idles}
use Rattle.ax_cache.specs.Pages.{CachedPages}
use Rattle.ax_pool.specs.Frames.{Frames, IsTaken, bytes_at}
use Rattle.ax_store.specs.declared.store.Store.{Store}
use Rattle.ax_store.specs.Store.{AgreesUnlessFailed}
use Rattle.ax_index.specs.Plans.{SameButRoomAndBytes}
use Rattle.ax_index.specs.Reading.{SameButBytes}

-- of a call that reads
pub record Reads {C : Type 0} (pages : C → CachedPages) (honest : Bool) (old new : Store C) (before after : History) (earlier later : ℕ) : Type 0 where
  pub same : SameButBytes old new
  pub agrees : AgreesUnlessFailed pages honest new after
  pub lists : IsTrue honest → Idles before after
  pub never_falls : earlier ≤ later

-- of one that makes room besides
pub record Reserves {C : Type 0} (pages : C → CachedPages) (honest : Bool) (old new : Store C) (before after : History) (earlier later : ℕ) : Type 0 where
  pub same : SameButRoomAndBytes old new
  pub agrees : AgreesUnlessFailed pages honest new after
  pub lists : IsTrue honest → Idles before after
  pub never_falls : earlier ≤ later

-- the bytes of each slot that was taken before the call are as they were
abbrev pub KeepsTaken : Frames → Frames → Type 0
KeepsTaken old new = (number : ℕ) → IsTaken old number → bytes_at new number ≡ bytes_at old number
