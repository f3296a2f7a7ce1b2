-- What each call of a disk does to the lists of the store that it acts on.
-- Source: as `Pending` and `Moments`; an offset past the end of a list reads as 0, and a failed call may stop anywhere on its way.
use Rattle.std.specs.Prelude.{◌≡◌, ◌⊎◌, ℕ, ◌+◌, List, ◌++◌, length, take, drop, replicate, Result, OnOk, OnErr}
use Rattle.ax_disk.specs.declared.extent.Extent.{Extent}
use Rattle.ax_disk.specs.model.Image.{list_of, with_list}
use Rattle.ax_disk.specs.model.Pending.{MayLeave, all_settled, after_write, after_cut}
use Rattle.ax_disk.specs.model.Moments.{History, Elapses}

-- `size` bytes from `at` on, with 0 past the end
abbrev pub bytes_from : List ℕ → ℕ → ℕ → List ℕ
bytes_from list at size = take size (drop at list ++ replicate size 0)

-- the list with these bytes at `at`
abbrev pub overwritten : List ℕ → ℕ → List ℕ → List ℕ
overwritten list at bytes = take at list ++ bytes ++ drop (at + length bytes) list

-- a call that changes no list, nor what a crash may leave
pub record Idles (old new : History) : Type 0 where
  pub reads : new.reads ≡ old.reads
  pub unsynced : new.unsynced ≡ old.unsynced
  pub time : Elapses old new (λ _ image. MayLeave old.unsynced image)

-- A write. One that fails may have reached any length on its way and left any bytes in its range, to a read too.
pub record Writes {T E : Type 0} (ext : Extent) (at : ℕ) (bytes : List ℕ) (result : Result T E) (old new : History) : Type 0 where
  pub done : OnOk result (new.reads ≡ with_list ext (overwritten (list_of ext old.reads) at bytes) old.reads)
  pub unsynced : OnOk result (new.unsynced ≡ after_write ext at (length bytes) old.unsynced)
  pub torn : OnErr result (MayLeave (after_write ext at (length bytes) (all_settled old.reads)) new.reads)
  pub unsynced_torn : OnErr result ((new.unsynced ≡ old.unsynced) ⊎ (new.unsynced ≡ after_write ext at (length bytes) old.unsynced))
  pub time : Elapses old new (λ _ image. MayLeave (after_write ext at (length bytes) old.unsynced) image)

-- A cut. One that fails may have reached any length on its way.
pub record Cuts {T E : Type 0} (ext : Extent) (len : ℕ) (result : Result T E) (old new : History) : Type 0 where
  pub done : OnOk result (new.reads ≡ with_list ext (take len (list_of ext old.reads)) old.reads)
  pub unsynced : OnOk result (new.unsynced ≡ after_cut ext len old.unsynced)
  pub torn : OnErr result (MayLeave (after_cut ext len (all_settled old.reads)) new.reads)
  pub unsynced_torn : OnErr result ((new.unsynced ≡ old.unsynced) ⊎ (new.unsynced ≡ after_cut ext len old.unsynced))
  pub time : Elapses old new (λ _ image. MayLeave (after_cut ext len old.unsynced) image)

-- A sync. After one that succeeds a crash leaves what a read gives. One that fails narrows nothing.
pub record Syncs {T E : Type 0} (result : Result T E) (old new : History) : Type 0 where
  pub reads : new.reads ≡ old.reads
  pub settled : OnOk result (new.unsynced ≡ all_settled old.reads)
  pub unsynced : OnErr result (new.unsynced ≡ old.unsynced)
  pub time : Elapses old new (λ _ image. MayLeave old.unsynced image)
