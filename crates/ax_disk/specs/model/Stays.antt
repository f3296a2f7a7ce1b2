-- What holds of all that a crash may leave: now, at each moment of a call, and since a barrier.
-- These are the words in which the layers above a disk tell what a crash at any moment leaves.
-- Source: the crash conditions of Chen et al., "Using Crash Hoare Logic for Certifying the FSCQ
-- File System" (SOSP 2015).
use Rattle.std.specs.Prelude.{◌⊎◌, ℕ, zero, suc}
use Rattle.ax_disk.specs.model.Image.{Image}
use Rattle.ax_disk.specs.model.Pending.{Unsynced, MayLeave}
use Rattle.ax_disk.specs.model.Moments.{History, Elapses, Progresses}

-- each image that a crash now may leave has P
pub record Rests (history : History) (P : Image → Type 0) : Type 0 where
  pub each : (image : Image) → MayLeave history.unsynced image → P image

-- So has each that a crash at a moment of the call might have left, and each that a crash now may
-- leave.
pub record Stays (old new : History) (P : Image → Type 0) : Type 0 where
  pub time : Elapses old new (λ _ image. P image)
  pub rests : Rests new P

-- The same where the call leads from P to Q: each of these images has the one or the other.
abbrev pub Turns : History → History → (Image → Type 0) → (Image → Type 0) → Type 0
Turns old new P Q = Stays old new (λ image. P image ⊎ Q image)

-- The stages of calls that begin with a barrier, the sync after which their promises hold. At stage
-- 0 an image is one that a crash before the calls might have left. At stage n + 1 it has P n.
abbrev pub BarrierStage : Unsynced → (ℕ → Image → Type 0) → ℕ → Image → Type 0
BarrierStage entry P zero image = MayLeave entry image
BarrierStage entry P (suc n) image = P n image

-- Calls that begin with a barrier. Before it each image is one that a crash before the calls might
-- have left, from the barrier on each has P. It was passed or not, and so the images that a crash
-- now may leave are all of the one kind or all of the other.
pub record SinceBarrier (old new : History) (P : Image → Type 0) : Type 0 where
  pub stages : Progresses old new 0 1 (BarrierStage old.unsynced (λ _ image. P image))
  pub rests : Rests new (MayLeave old.unsynced) ⊎ Rests new P
