-- An image has one list of log frames, is broken at one place or is of a later version, and no two of these: what the
-- layers ask that tell nothing of what frames say.
use Rattle.std.proofs.Common.{◌≡◌, ◌⊎◌, ℕ, List, inl, inr, sym, ap, ◌∙◌}
use Rattle.ax_disk.specs.declared.extent.Extent.{Extent}
use Rattle.ax_disk.specs.declared.extent.Extent.TheVariants.{Root, A, B}
use Rattle.ax_disk.specs.model.Image.{Image}
use Rattle.ax_area.specs.declared.root.Counting.{Counting}
use Rattle.ax_area.specs.declared.root.RootChoice.TheVariants.{Damaged}
use Rattle.ax_area.specs.Root.{IsRoot}
use Rattle.ax_area.specs.Image.{IsFresh, IsLive, HasFrames, IsNewer, IsWorn, IsBrokenImage, IsDamaged}
use Rattle.ax_area.proofs.OneRoot.{one_slot_counts, fresh_counts, fresh_damaged}
use Rattle.ax_area.proofs.OneOutcome as outcome

module _ (newest : ℕ) (image : Image) where
  pub fresh_not_live : (slot : Counting) (frames : List (List ℕ)) → IsFresh image
      → IsLive newest slot frames image → ⊥
  fresh_not_live slot frames fresh live = fresh_counts image.root slot fresh live.counts

  -- one slot and one list of frames
  pub one_live : (s t : Counting) (xs ys : List (List ℕ)) → IsLive newest s xs image
      → IsLive newest t ys image → (s ≡ t) × (xs ≡ ys)
  one_live s t xs ys a b =
      (one_slot_counts image.root s t a.counts b.counts, outcome.same_frames newest image s t xs ys a b)

  -- one list of frames
  pub one_frames : (xs ys : List (List ℕ)) → HasFrames newest xs image → HasFrames newest ys image
      → xs ≡ ys
  one_frames xs ys (inl a) (inl b) = a.1 ∙ sym b.1
  one_frames xs ys (inl a) (inr b) = absurd (fresh_not_live b.0 ys a.0 b.1)
  one_frames xs ys (inr a) (inl b) = absurd (fresh_not_live a.0 xs b.0 a.1)
  one_frames xs ys (inr a) (inr b) = (one_live a.0 b.0 xs ys a.1 b.1).1

  -- one later version
  pub one_newer : (v w : ℕ) → IsNewer newest v image → IsNewer newest w image → v ≡ w
  one_newer v w a b =
      sym a.version_is ∙ ap (λ (slot : Counting). slot.version)
      (one_slot_counts image.root a.slot b.slot a.counts b.counts) ∙ b.version_is

  pub newer_has_no_frames : (version : ℕ) (frames : List (List ℕ)) → IsNewer newest version image
      → HasFrames newest frames image → ⊥
  newer_has_no_frames version frames newer (inl a) =
      fresh_counts image.root newer.slot a.0 newer.counts
  newer_has_no_frames version frames newer (inr a) =
      outcome.newer_not_known newest image version a.0 newer a.1.counts a.1.known.known

  -- where it is broken, opening finds it damaged
  pub broken_damaged : (ext : Extent) (at : ℕ) → IsBrokenImage newest image ext at
      → IsDamaged newest image ext at
  broken_damaged Root at broken = broken
  broken_damaged A at broken = inl broken
  broken_damaged B at broken = inl broken

  -- one broken place
  pub one_damage : (ext other : Extent) (at place : ℕ) → IsBrokenImage newest image ext at
      → IsBrokenImage newest image other place → (ext ≡ other) × (at ≡ place)
  one_damage ext other at place a b =
      let one = broken_damaged ext at a in
      let two = broken_damaged other place b in (
        outcome.one_extent newest image ext other at place one two,
        outcome.one_place newest image ext other at place one two,
      )

  root_has_no_frames : (at : ℕ) (frames : List (List ℕ))
      → IsRoot image.root (Damaged at) ⊎ IsWorn newest at image → HasFrames newest frames image → ⊥
  root_has_no_frames at frames (inl damaged) (inl a) = fresh_damaged image.root at a.0 damaged
  root_has_no_frames at frames (inr worn) (inl a) =
      fresh_counts image.root worn.slot a.0 worn.counts
  root_has_no_frames at frames root (inr a) =
      outcome.root_and_area newest image at a.0 root a.1.counts a.1.known

  pub damaged_has_no_frames : (ext : Extent) (at : ℕ) (frames : List (List ℕ))
      → IsBrokenImage newest image ext at → HasFrames newest frames image → ⊥
  damaged_has_no_frames Root at frames broken has = root_has_no_frames at frames broken has
  damaged_has_no_frames A at frames broken (inl a) =
      fresh_counts image.root broken.slot a.0 broken.counts
  damaged_has_no_frames A at frames broken (inr a) =
      outcome.live_not_broken newest image a.0 frames A at a.1 broken
  damaged_has_no_frames B at frames broken (inl a) =
      fresh_counts image.root broken.slot a.0 broken.counts
  damaged_has_no_frames B at frames broken (inr a) =
      outcome.live_not_broken newest image a.0 frames B at a.1 broken

  -- what is broken is of no later version
  pub damaged_not_newer : (ext : Extent) (at version : ℕ) → IsBrokenImage newest image ext at
      → IsNewer newest version image → ⊥
  damaged_not_newer ext at version broken newer =
      outcome.damaged_not_newer newest image version ext at (broken_damaged ext at broken) newer
