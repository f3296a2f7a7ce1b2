-- What a crash may leave of a list of bytes. A sync that succeeds settles it: a crash then leaves what a read gives.
-- What was done since is pending: a crash leaves any length from the least to the greatest since, and any bytes where it was written or was not long enough.
-- Source: the guarantees that SQLite's "Atomic Commit In SQLite" (sections 2 and 3) asks of a file: writes may be lost,
-- torn or reordered until a sync, and bytes outside a written range stay.
use Rattle.std.specs.Prelude.{◌≡◌, ◌⊎◌, ℕ, ◌+◌, ◌<◌, ◌≤◌, min, max, List, [], ◌∷◌, length, slice_index}
use Rattle.ax_disk.specs.declared.extent.Extent.{Extent}
use Rattle.ax_disk.specs.declared.extent.Extent.TheVariants.{Root, A, B}
use Rattle.ax_disk.specs.model.Image.{Image}

-- so many bytes from the offset `at` on
pub record Range : Type 0 where
  pub at : ℕ
  pub size : ℕ

abbrev pub IsOutside : ℕ → Range → Type 0
IsOutside i range = (i < range.at) ⊎ (range.at + range.size ≤ i)

-- the offset is in none of the ranges
abbrev pub IsUntouched : ℕ → List Range → Type 0
IsUntouched i [] = Unit {0}
IsUntouched i (range ∷ ranges) = IsOutside i range × IsUntouched i ranges

-- each is a byte
abbrev pub AreBytes : List ℕ → Type 0
AreBytes bytes = (i : ℕ) → i < length bytes → slice_index bytes i < 256

-- what is pending of one list
pub record Pending : Type 0 where
  -- what a read gave at the last sync that succeeded
  pub stable : List ℕ
  -- the least and the greatest length since
  pub least : ℕ
  pub greatest : ℕ
  -- the ranges that were written since, by writes that failed too, the newest first
  pub ranges : List Range

-- A crash may leave these bytes of the list: any length between, the stable byte at each offset below the stable length
-- that wasn't written, and any byte elsewhere.
pub record MayHold (pending : Pending) (bytes : List ℕ) : Type 0 where
  pub no_shorter : pending.least ≤ length bytes
  pub no_longer : length bytes ≤ pending.greatest
  pub kept : (i : ℕ) → i < length pending.stable → i < length bytes → IsUntouched i pending.ranges
      → slice_index bytes i ≡ slice_index pending.stable i
  pub fit : AreBytes bytes

-- after a sync that succeeded
abbrev pub settled : List ℕ → Pending
settled bytes = record { stable = bytes; least = length bytes; greatest = length bytes; ranges = [] }

-- after a write of `size` bytes at `at`, also one that failed on the way
abbrev pub written : ℕ → ℕ → Pending → Pending
written at size pending = record pending {
  greatest = max pending.greatest (at + size);
  ranges = record { at = at; size = size } ∷ pending.ranges;
}

-- After a cut to `len`, also one that failed on the way. What was cut off may come back.
abbrev pub shortened : ℕ → Pending → Pending
shortened len pending = record pending { least = min pending.least len }

-- what is pending of the three lists
pub record Unsynced : Type 0 where
  pub root : Pending
  pub a : Pending
  pub b : Pending

abbrev pub pending_of : Extent → Unsynced → Pending
pending_of Root unsynced = unsynced.root
pending_of A unsynced = unsynced.a
pending_of B unsynced = unsynced.b

abbrev pub with_pending : Extent → Pending → Unsynced → Unsynced
with_pending Root pending unsynced = record unsynced { root = pending }
with_pending A pending unsynced = record unsynced { a = pending }
with_pending B pending unsynced = record unsynced { b = pending }

-- a crash may leave this image
pub record MayLeave (unsynced : Unsynced) (image : Image) : Type 0 where
  pub root : MayHold unsynced.root image.root
  pub a : MayHold unsynced.a image.a
  pub b : MayHold unsynced.b image.b

-- all three lists are synced
abbrev pub all_settled : Image → Unsynced
all_settled image = record { root = settled image.root; a = settled image.a; b = settled image.b }

abbrev pub after_write : Extent → ℕ → ℕ → Unsynced → Unsynced
after_write ext at size unsynced = with_pending ext (written at size (pending_of ext unsynced)) unsynced

abbrev pub after_cut : Extent → ℕ → Unsynced → Unsynced
after_cut ext len unsynced = with_pending ext (shortened len (pending_of ext unsynced)) unsynced
