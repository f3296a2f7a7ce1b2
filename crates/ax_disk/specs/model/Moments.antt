-- The history of a store's lists on a disk: what reads give, what a crash now may leave, and what a crash at each earlier
-- moment might have left. A theorem on crashes speaks of each moment, during a call or between two.
-- Source: the crash condition of Chen et al., "Using Crash Hoare Logic for Certifying the FSCQ File System" (SOSP 2015),
-- told moment by moment.
use Rattle.std.specs.Prelude.{◌↔◌, ℕ, ◌<◌, ◌≤◌}
use Rattle.ax_disk.specs.model.Image.{Image}
use Rattle.ax_disk.specs.model.Pending.{Unsynced, MayLeave}

pub record History : Type 1 where
  -- what reads give now
  pub reads : Image
  -- what is pending: a crash now may leave the images that this allows
  pub unsynced : Unsynced
  -- the moment now
  pub moment : ℕ
  -- what a crash at a moment up to now might have left
  pub left_at : ℕ → Image → Type 0

-- Time goes on from `old` to `new`. What a crash at a moment up to `old` might have left stays what it was,
-- and each image that a crash at a later moment up to `new` might have left has `P` of that moment.
pub record Elapses (old new : History) (P : ℕ → Image → Type 0) : Type 0 where
  pub later : old.moment ≤ new.moment
  pub past : (t : ℕ) (image : Image) → t ≤ old.moment → new.left_at t image ↔ old.left_at t image
  pub during : (t : ℕ) (image : Image) → old.moment < t → t ≤ new.moment → new.left_at t image → P t image

-- the images of the current moment are those that a crash now may leave
abbrev pub IsCurrent : History → Type 0
IsCurrent history = (image : Image) → history.left_at history.moment image ↔ MayLeave history.unsynced image

-- The same, where the moments go through stages, one for each, that run from `first` to `last` and never fall.
-- `P n` is what an image has that a crash at a moment of stage n might have left.
pub record Progresses (old new : History) (first last : ℕ) (P : ℕ → Image → Type 0) : Type 0 where
  pub stage : ℕ → ℕ
  pub from_first : (t : ℕ) → first ≤ stage t
  pub to_last : (t : ℕ) → stage t ≤ last
  pub never_falls : (s t : ℕ) → s ≤ t → stage s ≤ stage t
  pub each : Elapses old new (λ t image. P (stage t) image)
