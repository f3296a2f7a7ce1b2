-- What opening a log answers, by what reads give of the store when it begins: a log that agrees
-- with the disk by the frames that were there, the place that is damaged, or the later version. A
-- fresh store is formed; of any other nothing is changed. It is this project's own; it comes from
-- no public document.
use Rattle.std.specs.Prelude.{◌≡◌, ◌⊎◌, ℕ, List, [], Result, Ok, Err}
use Rattle.ax_disk.specs.declared.extent.Extent.{Extent}
use Rattle.ax_disk.specs.model.Image.{Image}
use Rattle.ax_disk.specs.model.Pending.{MayLeave}
use Rattle.ax_disk.specs.model.Moments.{History}
use Rattle.ax_disk.specs.model.Stays.{Stays}
use Rattle.ax_area.specs.declared.root.Counting.{Counting}
use Rattle.ax_area.specs.declared.root.RootChoice.TheVariants.{Counts}
use Rattle.ax_area.specs.Root.{IsRoot, IsKnown}
use Rattle.ax_area.specs.Image.{IsFresh, IsLive, IsNewer, IsBrokenImage}
use Rattle.ax_pages.specs.Area.{extent_number}
use Rattle.ax_pages.specs.declared.numbers.TheConstants.{NEWEST_VERSION}
use Rattle.ax_log.specs.declared.log.Log.{Log}
use Rattle.ax_log.specs.declared.fault.LogFault.{LogFault}
use Rattle.ax_log.specs.declared.fault.LogFault.TheVariants.{Disk, Damaged, Newer, Memory}
use Rattle.ax_log.specs.Log.{log_slot}
use Rattle.ax_log.specs.Agreement.{Agrees}
use Rattle.ax_log.specs.Forming.{formed_image, formed_slot}

-- The log agrees with the disk by the frames that the image before has: its slot is the one that counts there,
-- or that image was fresh, it has none, and reads give that of a store which was formed, with its slot.
pub record IsOpened (log : Log) (before : Image) (history : History) : Type 0 where
  pub frames : List (List ℕ)
  pub agrees : Agrees log frames history
  pub from : (IsFresh before × (frames ≡ []) × (log_slot log ≡ formed_slot) × (history.reads ≡ formed_image))
      ⊎ IsLive NEWEST_VERSION (log_slot log) frames before

-- the image before is broken at this place
pub record IsDamagedAt (before : Image) (extent at : ℕ) : Type 0 where
  pub list : Extent
  pub number : extent ≡ extent_number list
  pub damaged : IsBrokenImage NEWEST_VERSION before list at

-- The root of the image before names an area of a version that is known: only for such an area memory is used.
pub record NamesArea (before : Image) : Type 0 where
  pub slot : Counting
  pub counts : IsRoot before.root (Counts slot)
  pub known : IsKnown NEWEST_VERSION slot

-- what each answer says
abbrev pub Tells : Result Log LogFault → Image → History → Type 0
Tells (Ok log) before history = IsOpened log before history
Tells (Err Disk) before history = Unit {0}
Tells (Err (Damaged extent at)) before history = IsDamagedAt before extent at
Tells (Err (Newer version)) before history = IsNewer NEWEST_VERSION version before
Tells (Err Memory) before history = NamesArea before

-- This is the answer, but that the disk may fail, and memory run out.
abbrev pub IsAnswer : LogFault → Result Log LogFault → Type 0
IsAnswer fault result = (result ≡ Err fault) ⊎ ((result ≡ Err Disk) ⊎ (result ≡ Err Memory))

-- This is the answer, but that the disk may fail.
abbrev pub IsAnswerUnlessDisk : LogFault → Result Log LogFault → Type 0
IsAnswerUnlessDisk fault result = (result ≡ Err fault) ⊎ (result ≡ Err Disk)

-- Nothing was changed: reads give what they gave, and a crash leaves nothing that it might not have
-- left before.
pub record Keeps (old new : History) : Type 0 where
  pub reads : new.reads ≡ old.reads
  pub stays : Stays old new (MayLeave old.unsynced)
