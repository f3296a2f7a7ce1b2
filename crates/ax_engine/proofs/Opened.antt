-- An image that stands for a container is not refused; and what a failure before the barrier leaves.
use Rattle.std.proofs.Common.{inl, inr, ℕ, List, ap, arith}
use Rattle.ax_area.proofs.OneOutcome.{says_not_damaged}
use Rattle.ax_area.proofs.OneRoot.{fresh_counts, one_slot_counts}
use Rattle.ax_area.specs.Contents.{Contents}
use Rattle.ax_area.specs.Image.{IsNewer, Says}
use Rattle.ax_area.specs.Told.{Told}
use Rattle.ax_area.specs.declared.root.Counting.{Counting}
use Rattle.ax_container.specs.Container.{Container}
use Rattle.ax_disk.specs.laws.CallLaws.{idles_leave}
use Rattle.ax_disk.specs.laws.MomentLaws.{progress_stays, progress_within}
use Rattle.ax_disk.specs.model.Calls.{Idles}
use Rattle.ax_disk.specs.model.Image.{Image}
use Rattle.ax_disk.specs.model.Moments.{History}
use Rattle.ax_disk.specs.model.Stays.{BarrierStage, SinceBarrier}
use Rattle.ax_documents.specs.Opening.{IsImageOf, IsRefusedAt}
use Rattle.ax_image.specs.Readable.{newest}
use Rattle.ax_image_grammar.proofs.MetThere.{has_table, nothing_met}

-- the barrier is still to come
pub idle_since : (old new : History) (P : Image → Type 0) → Idles old new → SinceBarrier old new P
idle_since old new P idle = record {
  stages = progress_within old new 0 0 0 1 (BarrierStage old.unsynced (λ _ image. P image))
      (omega arith) (omega arith)
      (progress_stays old new 0 (BarrierStage old.unsynced (λ _ image. P image)) idle.time);
  rests = inl (record { each = λ image may. idles_leave old new idle image may });
}

-- ---- an image that stands for a container is neither damaged nor of a later version

pub not_refused : (image : Image) (container : Container) (extent at : ℕ) → IsImageOf container image
    → IsRefusedAt image extent at → ⊥
not_refused image container extent at stand (list, is, inl damaged) =
    says_not_damaged newest image stand.version stand.told stand.contents list at stand.grammatical.says damaged
not_refused image container extent at stand (list, is, inr (inl needed)) =
    nothing_met newest stand.version stand.told stand.contents list at image stand.grammatical
    (record {
      version = needed.version;
      told = needed.told;
      contents = needed.contents;
      live = needed.live;
      area_is = needed.area_is;
      met = inr (inl (needed.number, needed.met));
    })
not_refused image container extent at stand (list, is, inr (inr twins)) =
    has_table newest stand.version stand.told stand.contents list at image stand.grammatical (inr twins)

says_not_newer : (image : Image) (known version : ℕ) (told : List Told) (contents : Contents)
    → Says newest known told contents image → IsNewer newest version image → ⊥
says_not_newer image known version told contents (inl fresh) newer =
    fresh_counts image.root newer.slot fresh.fresh newer.counts
says_not_newer image known version told contents (inr live) newer =
    omega (
      arith,
      live.live.known.known,
      newer.later,
      newer.version_is,
      ap (λ (slot : Counting). slot.version)
          (one_slot_counts image.root live.slot newer.slot live.live.counts newer.counts),
    )

pub not_newer : (image : Image) (container : Container) (version : ℕ) → IsImageOf container image
    → IsNewer newest version image → ⊥
not_newer image container version stand newer =
    says_not_newer image stand.version version stand.told stand.contents stand.grammatical.says newer
