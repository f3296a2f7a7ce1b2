-- The store and its log: agreement, and what it says of images.
use Rattle.std.proofs.Common.{◌≡◌, ℕ, zero, suc, ⊎_elim, ◌≤◌, List, sym, subst, inl, inr}
use Rattle.std.specs.FinMap as map
use Rattle.ax_disk.specs.model.Image.{Image}
use Rattle.ax_disk.specs.model.Pending.{MayLeave}
use Rattle.ax_disk.specs.model.Moments.{History}
use Rattle.ax_disk.specs.model.Calls.{Idles}
use Rattle.ax_disk.specs.model.Stays.{Rests, SinceBarrier, BarrierStage}
use Rattle.ax_disk.specs.laws.StaysLaws.{rests_weaken}
use Rattle.ax_disk.specs.laws.StageLaws.{progress_weaken}
use Rattle.ax_area.specs.Image.{HasFrames, Says}
use Rattle.ax_cache.specs.Pages.{CachedPages}
use Rattle.ax_pages.specs.Area.{frames_bytes}
use Rattle.ax_pages.specs.declared.numbers.TheConstants.{NEWEST_VERSION}
use Rattle.ax_log.specs.Log.{log_area, log_generation}
use Rattle.ax_log.specs.Agreement as log
use Rattle.ax_log.specs.AgreementLaws.{agrees_idles, agrees_rests}
use Rattle.ax_store.specs.Cached.{HoldsParts}
use Rattle.ax_store.specs.declared.store.Store.{Store}
use Rattle.ax_store.specs.Loading.{nothing_kept, TakesOn}
use Rattle.ax_store.specs.Store.{Agrees, SameButCache, SameButRoom, SameButSlots, SaysOf, store_contents}
use Rattle.ax_store.proofs.CacheLemmas.{none_held}
use Rattle.ax_store.proofs.FramesSay.{says_by, taken_tell}
use Rattle.ax_store.proofs.LoadLemmas.{last_same}

-- ---- a law for clients: where the store agrees, each image that a crash now may leave says its contents
pub agrees_says : {C : Type 0} (pages : C → CachedPages) (store : Store C) (history : History) → Agrees pages store history
    → SaysOf store history
agrees_says pages store history agrees =
    let (told, tells) = taken_tell agrees.frames store.pages agrees.takes in
    record {
      version = NEWEST_VERSION;
      told = told;
      says = rests_weaken history (HasFrames NEWEST_VERSION agrees.frames) (Says NEWEST_VERSION NEWEST_VERSION told (store_contents store))
          (says_by agrees.frames NEWEST_VERSION told (store_contents store) tells)
          (agrees_rests store.log agrees.frames history agrees.logged);
    }

-- it agrees still where no list changed
pub agrees_still : {C : Type 0} (pages : C → CachedPages) (store : Store C) (old new : History) → Agrees pages store old → Idles old new
    → Agrees pages store new
agrees_still pages store old new agrees idles = record {
  frames = agrees.frames;
  logged = agrees_idles store.log agrees.frames old new agrees.logged idles;
  takes = agrees.takes;
  caches = agrees.caches;
}

-- the cache holds only bytes of the frames
abbrev pub CachesOf : {C : Type 0} → (C → CachedPages) → Store C → List (List ℕ) → Type 0
CachesOf pages store frames = HoldsParts (pages store.cache) (log_area store.log) (log_generation store.log) (frames_bytes frames)

pub caches_same : {C : Type 0} (pages : C → CachedPages) (old new : Store C) (frames : List (List ℕ)) → new.log ≡ old.log
    → new.cache ≡ old.cache → CachesOf pages old frames → CachesOf pages new frames
caches_same pages old new frames logged cache caches =
    subst (λ c. HoldsParts (pages c) (log_area new.log) (log_generation new.log) (frames_bytes frames)) (sym cache)
    (subst (λ l. HoldsParts (pages old.cache) (log_area l) (log_generation l) (frames_bytes frames)) (sym logged) caches)

-- and after a read, which changes the cache alone
pub agrees_read : {C : Type 0} (pages : C → CachedPages) (old new : Store C) (before after : History) (agrees : Agrees pages old before)
    → new.log ≡ old.log → new.pages ≡ old.pages
    → CachesOf pages new agrees.frames → Idles before after → Agrees pages new after
agrees_read pages old new before after agrees logged same caches idles = record {
  frames = agrees.frames;
  logged = agrees_idles new.log agrees.frames before after (subst (λ l. log.Agrees l agrees.frames before) (sym logged) agrees.logged) idles;
  takes = subst (TakesOn agrees.frames 0 nothing_kept) (sym same) agrees.takes;
  caches = caches;
}

-- and where nothing of it changed but the room
pub agrees_same : {C : Type 0} (pages : C → CachedPages) (old new : Store C) (history : History) → SameButRoom old new
    → Agrees pages old history → Agrees pages new history
agrees_same pages old new history same agrees = record {
  caches = caches_same pages old new agrees.frames same.logged same.cache agrees.caches;
  frames = agrees.frames;
  logged = subst (λ l. log.Agrees l agrees.frames history) (sym same.logged) agrees.logged;
  takes = last_same agrees.frames 0 nothing_kept old.pages new.pages agrees.takes same.contents same.offsets;
}

-- and over another cache, which holds nothing yet
pub agrees_recached : {C E : Type 0} (pages : C → CachedPages) (others : E → CachedPages) (old : Store C) (new : Store E)
    (history : History) → SameButCache old new → others new.cache ≡ map.empty
    → Agrees pages old history → Agrees others new history
agrees_recached pages others old new history same empty agrees = record {
  caches = none_held (others new.cache) (log_area new.log) (log_generation new.log) (frames_bytes agrees.frames) empty;
  frames = agrees.frames;
  logged = subst (λ l. log.Agrees l agrees.frames history) (sym same.logged) agrees.logged;
  takes = subst (TakesOn agrees.frames 0 nothing_kept) (sym same.pages) agrees.takes;
}

-- and where nothing of it changed but its slots
pub agrees_slots : {C : Type 0} (pages : C → CachedPages) (old new : Store C) (history : History) → SameButSlots old new
    → Agrees pages old history → Agrees pages new history
agrees_slots pages old new history same agrees = record {
  caches = caches_same pages old new agrees.frames same.logged same.cache agrees.caches;
  frames = agrees.frames;
  logged = subst (λ l. log.Agrees l agrees.frames history) (sym same.logged) agrees.logged;
  takes = subst (TakesOn agrees.frames 0 nothing_kept) (sym same.pages) agrees.takes;
}

-- ---- barriers

stage_weaken : (old : History) (P Q : Image → Type 0) → ((image : Image) → P image → Q image) → (n : ℕ) (image : Image) → 0 ≤ n → n ≤ 1
    → BarrierStage old.unsynced (λ _ image. P image) n image → BarrierStage old.unsynced (λ _ image. Q image) n image
stage_weaken old P Q weaker zero image from to is = is
stage_weaken old P Q weaker (suc n) image from to is = weaker image is

pub barrier_weaken : (old new : History) (P Q : Image → Type 0) → ((image : Image) → P image → Q image) → SinceBarrier old new P → SinceBarrier old new Q
barrier_weaken old new P Q weaker since = record {
  stages =
      progress_weaken old new 0 1 (BarrierStage old.unsynced (λ _ image. P image)) (BarrierStage old.unsynced (λ _ image. Q image))
      (stage_weaken old P Q weaker) since.stages;
  rests = ⊎_elim (λ (before : Rests new (MayLeave old.unsynced)). inl before) (λ (rests : Rests new P). inr (rests_weaken new P Q weaker rests)) since.rests;
}
