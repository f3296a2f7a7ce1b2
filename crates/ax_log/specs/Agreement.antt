-- When a log agrees with a disk by a list of frames: each image that a crash now may leave has the
-- root that reads give, in which the log's slot counts, and in the area that it names these
-- frames, with a closed gate at the log's end. It is this project's own; it comes from no public
-- document.
use Rattle.std.specs.Prelude.{◌≡◌, ℕ, List, length}
use Rattle.ax_disk.specs.declared.extent.Extent.{Extent}
use Rattle.ax_disk.specs.model.Image.{Image, list_of}
use Rattle.ax_disk.specs.model.Moments.{History}
use Rattle.ax_disk.specs.model.Stays.{Rests}
use Rattle.ax_area.specs.declared.root.RootChoice.TheVariants.{Counts}
use Rattle.ax_area.specs.Root.{IsRoot, IsKnown}
use Rattle.ax_pages.specs.declared.numbers.TheConstants.{NEWEST_VERSION}
use Rattle.ax_pages.specs.Area.{frames_bytes, IsArea}
use Rattle.ax_log.specs.declared.log.Log.{Log}
use Rattle.ax_log.specs.Log.{log_slot, log_area, log_end}

-- an image has this root, and in this area these frames
pub record HasLog (root : List ℕ) (area : Extent) (frames : List (List ℕ))
    (image : Image) : Type 0 where
  pub root_is : image.root ≡ root
  pub has : IsArea (list_of area image) frames

pub record Agrees (log : Log) (frames : List (List ℕ)) (history : History) : Type 0 where
  pub counts : IsRoot history.reads.root (Counts (log_slot log))
  pub known : IsKnown NEWEST_VERSION (log_slot log)
  pub end_is : log_end log ≡ length (frames_bytes frames)
  pub rests : Rests history (HasLog history.reads.root (log_area log) frames)
