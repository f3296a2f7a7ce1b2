-- What opening a store answers where it is damaged or of a later version. An image is one thing alone, so what is told of
-- the answer leaves no other.
use Rattle.std.proofs.Common.{◌≡◌, inl, inr, ℕ, Result, Ok, Err, refl, ◌∙◌, ap}
use Rattle.ax_disk.specs.declared.extent.Extent.{Extent}
use Rattle.ax_disk.specs.declared.extent.Extent.TheVariants.{Root}
use Rattle.ax_disk.specs.model.Image.{Image}
use Rattle.ax_disk.specs.model.Moments.{History}
use Rattle.ax_area.specs.Image.{IsDamaged, IsNewer}
use Rattle.ax_area.proofs.OneImage.{damaged_has_no_frames, newer_has_no_frames}
use Rattle.ax_area.proofs.OneOutcome.{damaged_not_newer, one_extent, one_place, says_not_damaged}
use Rattle.ax_cache.specs.Pages.{CachedPages}
use Rattle.ax_pages.specs.Area.{extent_number}
use Rattle.ax_pages.specs.declared.numbers.TheConstants.{NEWEST_VERSION}
use Rattle.ax_log.specs.declared.log.Log.{Log}
use Rattle.ax_log.specs.declared.fault.LogFault.{LogFault}
use Rattle.ax_log.specs.declared.fault.LogFault.TheVariants as by_log
use Rattle.ax_log.specs.Opening as opening
use Rattle.ax_log.specs.OpeningLaws.{opened_frames}
use Rattle.ax_store.specs.declared.fault.StoreFault.{StoreFault}
use Rattle.ax_store.specs.declared.fault.StoreFault.TheVariants.{Disk, Damaged, Newer, Memory}
use Rattle.ax_store.specs.declared.store.Store.{Store}
use Rattle.ax_store.specs.Store.{TellsStore, IsAnswer, IsAnswerUnlessDisk, of_log, store_contents}

same_damage : (image : Image) (list ext : Extent) (extent place at : ℕ) → extent ≡ extent_number list
    → IsDamaged NEWEST_VERSION image list place → IsDamaged NEWEST_VERSION image ext at
    → Damaged extent place ≡ Damaged (extent_number ext) at
same_damage image list ext extent place at number one other =
    ap (λ (n : ℕ). Damaged n place)
    (number ∙ ap extent_number (one_extent NEWEST_VERSION image list ext place at one other))
    ∙ ap (λ (n : ℕ). Damaged (extent_number ext) n) (one_place NEWEST_VERSION image list ext place at one other)

-- a damaged store
pub damaged_exactly : {C : Type 0} (pages : C → CachedPages) (result : Result (Store C) StoreFault) (image : Image)
    (history : History) (ext : Extent) (at : ℕ) → IsDamaged NEWEST_VERSION image ext at
    → TellsStore pages result image history → IsAnswer (Damaged (extent_number ext) at) result
damaged_exactly pages (Ok store) image history ext at damaged tells = absurd
    (says_not_damaged NEWEST_VERSION image tells.has.0 tells.has.1 (store_contents store) ext at tells.has.2 damaged)
damaged_exactly pages (Err Disk) image history ext at damaged tells = inr (inl refl)
damaged_exactly pages (Err (Damaged extent place)) image history ext at damaged tells =
    inl (ap (λ (f : StoreFault). Err f) (same_damage image tells.0 ext extent place at tells.1 tells.2 damaged))
damaged_exactly pages (Err (Newer version)) image history ext at damaged tells = absurd
    (damaged_not_newer NEWEST_VERSION image version ext at damaged tells)
damaged_exactly pages (Err Memory) image history ext at damaged tells = inr (inr refl)

-- the answer of a log that is not opened
pub log_answer : {C : Type 0} (fault answer : LogFault) (told : StoreFault) → told ≡ of_log fault
    → opening.IsAnswerUnlessDisk answer (Err fault) → IsAnswerUnlessDisk {C = C} (of_log answer) (Err told)
log_answer fault answer told of (inl is) =
    let same : fault ≡ answer = cc in
    inl (ap (λ (f : StoreFault). Err f) (of ∙ ap (λ (f : LogFault). of_log f) same))
log_answer fault answer told of (inr is) =
    let same : fault ≡ by_log.Disk = cc in
    inr (ap (λ (f : StoreFault). Err f) (of ∙ ap (λ (f : LogFault). of_log f) same))

-- a log that is opened
module _ (l : Log) (before : Image) (mid : History) (opened : opening.IsOpened l before mid) where
  pub opened_whole_root : (at : ℕ) → IsDamaged NEWEST_VERSION before Root at → ⊥
  opened_whole_root at damaged =
      damaged_has_no_frames NEWEST_VERSION before Root at opened.frames damaged (opened_frames l before mid opened)

  pub opened_known : (version : ℕ) → IsNewer NEWEST_VERSION version before → ⊥
  opened_known version newer =
      newer_has_no_frames NEWEST_VERSION before version opened.frames newer (opened_frames l before mid opened)
