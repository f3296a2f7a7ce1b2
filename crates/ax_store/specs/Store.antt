-- A store as contracts see it, when it agrees with a disk, and what opening it answers.
-- It is this project's own; it comes from no public document.
use Rattle.std.specs.Prelude.{◌≡◌, ◌⊎◌, ℕ, Bool, false, List, ◌++◌, Result, Ok, Err, IsTrue}
use Rattle.ax_disk.specs.declared.extent.Extent.{Extent}
use Rattle.ax_disk.specs.model.Image.{Image}
use Rattle.ax_disk.specs.model.Moments.{History}
use Rattle.ax_disk.specs.model.Stays.{Rests}
use Rattle.ax_area.specs.Changes.{Change}
use Rattle.ax_area.specs.Contents.{Contents}
use Rattle.ax_area.specs.Image.{Says, IsNewer, IsDamaged}
use Rattle.ax_area.specs.Told.{Told, changes_of}
use Rattle.ax_area_laws.specs.Risen.{risen}
use Rattle.ax_pages.specs.Area.{extent_number}
use Rattle.ax_pages.specs.Contents as parts
use Rattle.ax_pages.specs.declared.numbers.TheConstants.{NEWEST_VERSION}
use Rattle.ax_cache.specs.Pages.{CachedPages}
use Rattle.ax_pages.specs.Area.{frames_bytes}
use Rattle.ax_log.specs.Log.{log_area, log_generation}
use Rattle.ax_log.specs.Agreement as log
use Rattle.ax_log.specs.declared.fault.LogFault.{LogFault}
use Rattle.ax_log.specs.declared.fault.LogFault.TheVariants as by_log
use Rattle.ax_pool.specs.Frames.{Frames}
use Rattle.ax_store.specs.declared.store.Store.{Store}
use Rattle.ax_store.specs.declared.fault.StoreFault.{StoreFault}
use Rattle.ax_store.specs.declared.fault.StoreFault.TheVariants.{Disk, Damaged, Newer, Memory}
use Rattle.ax_store.specs.Cached.{HoldsParts}
use Rattle.ax_store.specs.Kept.{PageOffsets, room_of}
use Rattle.ax_store.specs.Loading.{nothing_kept, TakesOn}

-- the payloads of the parts that count, of each page
abbrev pub store_parts : {C : Type 0} → Store C → parts.Contents
store_parts store = store.pages.contents

-- what they say
abbrev pub store_contents : {C : Type 0} → Store C → Contents
store_contents store = risen (store_parts store)

-- where the parts of each page stand in the area
abbrev pub store_offsets : {C : Type 0} → Store C → PageOffsets
store_offsets store = store.pages.offsets

-- how many parts may be committed without memory
abbrev pub store_spare : {C : Type 0} → Store C → ℕ
store_spare store = store.pages.spare

-- how many deltas of a term page may be committed without memory
abbrev pub store_room : {C : Type 0} → ℕ → Store C → ℕ
store_room number store = room_of number store.pages

-- the frames of the slots
abbrev pub store_slots : {C : Type 0} → Store C → Frames
store_slots store = store.pool

-- a call answered that the disk failed
abbrev pub store_failed : {C : Type 0} → Store C → Bool
store_failed store = store.failed

-- the area that counts
abbrev pub store_area : {C : Type 0} → Store C → Extent
store_area store = log_area store.log

-- The log agrees with the disk by some frames, these lead from nothing to the store's pages, and the
-- cache holds only payloads that stand in them.
pub record Agrees {C : Type 0} (pages : C → CachedPages) (store : Store C) (history : History) : Type 0 where
  pub frames : List (List ℕ)
  pub logged : log.Agrees store.log frames history
  pub takes : TakesOn frames 0 nothing_kept store.pages
  pub caches : HoldsParts (pages store.cache) (log_area store.log) (log_generation store.log) (frames_bytes frames)

-- the store agrees with a disk that is honest, until it has failed
abbrev pub AgreesUnlessFailed : {C : Type 0} → (C → CachedPages) → Bool → Store C → History → Type 0
AgreesUnlessFailed pages honest store history =
    IsTrue honest → store_failed store ≡ false → Agrees pages store history

-- nothing changed but the room
pub record SameButRoom {C : Type 0} (old new : Store C) : Type 0 where
  pub cache : new.cache ≡ old.cache
  pub logged : new.log ≡ old.log
  pub contents : store_parts new ≡ store_parts old
  pub offsets : store_offsets new ≡ store_offsets old
  pub failed : store_failed new ≡ store_failed old
  pub slots : store_slots new ≡ store_slots old

-- nothing changed but which slots are free, and their bytes
pub record SameButSlots {C : Type 0} (old new : Store C) : Type 0 where
  pub logged : new.log ≡ old.log
  pub pages : new.pages ≡ old.pages
  pub failed : store_failed new ≡ store_failed old
  pub cache : new.cache ≡ old.cache

-- nothing changed but slots, their bytes, and what the cache holds; and the store may have failed
pub record SameButReads {C : Type 0} (old new : Store C) : Type 0 where
  pub logged : new.log ≡ old.log
  pub pages : new.pages ≡ old.pages

-- the same over another cache
pub record SameButCache {C E : Type 0} (old : Store C) (new : Store E) : Type 0 where
  pub logged : new.log ≡ old.log
  pub pages : new.pages ≡ old.pages
  pub failed : store_failed new ≡ store_failed old
  pub slots : store_slots new ≡ store_slots old

-- The image says these contents, whatever it tells.
abbrev pub Has : Contents → Image → Type 0
Has contents image =
    (version : ℕ) × (told : List Told) × Says NEWEST_VERSION version told contents image

-- It tells behind this what says these changes, and that leads to the contents.
abbrev pub SaysMore : ℕ → List Told → List Change → Contents → Image → Type 0
SaysMore version told changes contents image =
    (more : List Told) × (changes_of more ≡ changes)
    × Says NEWEST_VERSION version (told ++ more) contents image

-- each image that a crash now may leave says the store's contents, and all tell the same
pub record SaysOf {C : Type 0} (store : Store C) (history : History) : Type 0 where
  pub version : ℕ
  pub told : List Told
  pub says : Rests history (Says NEWEST_VERSION version told (store_contents store))

-- The store agrees with the disk by the contents that the image before says.
pub record IsOpened {C : Type 0} (pages : C → CachedPages) (store : Store C) (before : Image) (history : History) : Type 0 where
  pub agrees : Agrees pages store history
  pub has : Has (store_contents store) before
  pub works : store_failed store ≡ false

-- the image is damaged at this place of this list: in its root, in a frame, or in an item
abbrev pub IsDamagedStore : Image → ℕ → ℕ → Type 0
IsDamagedStore before extent at =
    (list : Extent) × (extent ≡ extent_number list) × IsDamaged NEWEST_VERSION before list at

-- what each answer says
abbrev pub TellsFault : StoreFault → Image → Type 0
TellsFault Disk before = Unit {0}
TellsFault (Damaged extent at) before = IsDamagedStore before extent at
TellsFault (Newer version) before = IsNewer NEWEST_VERSION version before
TellsFault Memory before = Unit {0}

abbrev pub TellsStore : {C : Type 0} → (C → CachedPages) → Result (Store C) StoreFault → Image → History → Type 0
TellsStore pages (Ok store) before history = IsOpened pages store before history
TellsStore pages (Err fault) before history = TellsFault fault before

-- This is the answer, but that the disk may fail, and memory run out.
abbrev pub IsAnswer : {C : Type 0} → StoreFault → Result (Store C) StoreFault → Type 0
IsAnswer fault result = (result ≡ Err fault) ⊎ ((result ≡ Err Disk) ⊎ (result ≡ Err Memory))

-- This is the answer, but that the disk may fail.
abbrev pub IsAnswerUnlessDisk : {C : Type 0} → StoreFault → Result (Store C) StoreFault → Type 0
IsAnswerUnlessDisk fault result = (result ≡ Err fault) ⊎ (result ≡ Err Disk)

-- a fault of the log as one of the store
abbrev pub of_log : LogFault → StoreFault
of_log by_log.Disk = Disk
of_log (by_log.Damaged extent at) = Damaged extent at
of_log (by_log.Newer version) = Newer version
of_log by_log.Memory = Memory
