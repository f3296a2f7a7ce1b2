-- Laws of what opening answers: since an image is one thing alone, a broken store is answered as
-- damaged at its place, one of a later version as that, and any other never so; but that the disk
-- may fail, and where an area is read memory run out.
use Rattle.std.proofs.Common.{◌≡◌, ◌⊎◌, inl, inr, ℕ, List, [], Result, Ok, Err, refl, ◌∙◌, ap}
use Rattle.ax_disk.specs.declared.extent.Extent.{Extent}
use Rattle.ax_disk.specs.declared.extent.Extent.TheVariants.{Root}
use Rattle.ax_disk.specs.model.Image.{Image}
use Rattle.ax_disk.specs.model.Moments.{History}
use Rattle.ax_pages.specs.Area.{extent_number}
use Rattle.ax_pages.specs.declared.numbers.TheConstants.{NEWEST_VERSION}
use Rattle.ax_area.specs.Image.{IsFresh, IsLive, IsNewer, IsBrokenImage, HasFrames}
use Rattle.ax_area.proofs.OneOutcome.{newer_not_known, root_and_area}
use Rattle.ax_area.proofs.OneImage.{damaged_has_no_frames, newer_has_no_frames, damaged_not_newer, one_damage, one_newer}
use Rattle.ax_log.specs.declared.log.Log.{Log}
use Rattle.ax_log.specs.declared.fault.LogFault.{LogFault}
use Rattle.ax_log.specs.declared.fault.LogFault.TheVariants.{Disk, Damaged, Newer, Memory}
use Rattle.ax_log.specs.Log.{log_slot}
use Rattle.ax_log.specs.Forming.{formed_image, formed_slot}
use Rattle.ax_log.specs.Opening.{IsOpened, Tells, IsAnswer, IsAnswerUnlessDisk}

frames_from : (log : Log) (image reads : Image) (frames : List (List ℕ))
    → (IsFresh image × (frames ≡ []) × (log_slot log ≡ formed_slot) × (reads ≡ formed_image)) ⊎ IsLive NEWEST_VERSION (log_slot log) frames image
    → HasFrames NEWEST_VERSION frames image
frames_from log image reads frames (inl fresh) = inl (fresh.0, fresh.1)
frames_from log image reads frames (inr live) = inr (log_slot log, live)

-- a log that was opened has frames, and the image before had them
pub opened_frames : (log : Log) (image : Image) (history : History)
    → (opened : IsOpened log image history) → HasFrames NEWEST_VERSION opened.frames image
opened_frames log image history opened = frames_from log image history.reads opened.frames opened.from

same_damage : (image : Image) (list ext : Extent) (extent place at : ℕ)
    → extent ≡ extent_number list → IsBrokenImage NEWEST_VERSION image list place → IsBrokenImage NEWEST_VERSION image ext at
    → Damaged extent place ≡ Damaged (extent_number ext) at
same_damage image list ext extent place at number one other =
    let same = one_damage NEWEST_VERSION image list ext place at one other in
    ap (λ (n : ℕ). Damaged n place) (number ∙ ap extent_number same.0)
    ∙ ap (λ (n : ℕ). Damaged (extent_number ext) n) same.1

-- a broken store
pub damaged_exactly : (result : Result Log LogFault) (image : Image) (history : History)
    (ext : Extent) (at : ℕ) → IsBrokenImage NEWEST_VERSION image ext at → Tells result image history
    → IsAnswer (Damaged (extent_number ext) at) result
damaged_exactly (Ok log) image history ext at damaged tells = absurd
    (damaged_has_no_frames NEWEST_VERSION image ext at tells.frames damaged
    (opened_frames log image history tells))
damaged_exactly (Err Disk) image history ext at damaged tells = inr (inl refl)
damaged_exactly (Err (Damaged extent place)) image history ext at damaged tells =
    inl (ap (λ (f : LogFault). Err f) (same_damage image tells.list ext extent place at tells.number
    tells.damaged damaged))
damaged_exactly (Err (Newer version)) image history ext at damaged tells = absurd
    (damaged_not_newer NEWEST_VERSION image ext at version damaged tells)
damaged_exactly (Err Memory) image history ext at damaged tells = inr (inr refl)

-- a store whose root is damaged
pub damaged_root_exactly : (result : Result Log LogFault) (image : Image) (history : History) (at : ℕ)
    → IsBrokenImage NEWEST_VERSION image Root at → Tells result image history
    → IsAnswerUnlessDisk (Damaged (extent_number Root) at) result
damaged_root_exactly (Ok log) image history at damaged tells = absurd
    (damaged_has_no_frames NEWEST_VERSION image Root at tells.frames damaged
    (opened_frames log image history tells))
damaged_root_exactly (Err Disk) image history at damaged tells = inr refl
damaged_root_exactly (Err (Damaged extent place)) image history at damaged tells =
    inl (ap (λ (f : LogFault). Err f) (same_damage image tells.list Root extent place at tells.number
    tells.damaged damaged))
damaged_root_exactly (Err (Newer version)) image history at damaged tells = absurd
    (damaged_not_newer NEWEST_VERSION image Root at version damaged tells)
damaged_root_exactly (Err Memory) image history at damaged tells = absurd
    (root_and_area NEWEST_VERSION image at tells.slot damaged tells.counts tells.known)

-- a store of a later version
pub newer_exactly : (result : Result Log LogFault) (image : Image) (history : History) (version : ℕ)
    → IsNewer NEWEST_VERSION version image → Tells result image history
    → IsAnswerUnlessDisk (Newer version) result
newer_exactly (Ok log) image history version newer tells = absurd
    (newer_has_no_frames NEWEST_VERSION image version tells.frames newer (opened_frames log image history tells))
newer_exactly (Err Disk) image history version newer tells = inr refl
newer_exactly (Err (Damaged extent place)) image history version newer tells = absurd
    (damaged_not_newer NEWEST_VERSION image tells.list place version tells.damaged newer)
newer_exactly (Err (Newer other)) image history version newer tells = inl
    (ap (λ (v : ℕ). Err (Newer v)) (one_newer NEWEST_VERSION image other version tells newer))
newer_exactly (Err Memory) image history version newer tells = absurd
    (newer_not_known NEWEST_VERSION image version tells.slot newer tells.counts tells.known.known)
