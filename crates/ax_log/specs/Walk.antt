-- The walk over an area by the heads of its frames, with a window of bytes that is moved along.
-- From the store's own file format (docs/FORMAT.md, "Frames"); no other document has it.
use Rattle.std.specs.Prelude.{◌≡◌, ℕ, ◌+◌, ◌<◌, ◌≤◌, List, ◌++◌, length, Result, Ok, Err}
use Rattle.ax_disk.specs.declared.extent.Extent.{Extent}
use Rattle.ax_disk.specs.model.Calls.{bytes_from}
use Rattle.ax_frame.specs.LogFrame.{open_frame}
use Rattle.ax_pages.specs.Area.{IsSpan, AreSpans, frames_bytes, IsClosed, IsNoLogFrame, IsArea, IsBroken}
use Rattle.ax_pages.specs.Area.{extent_number}
use Rattle.ax_log.specs.declared.fault.LogFault.{LogFault}
use Rattle.ax_log.specs.declared.fault.LogFault.TheVariants.{Disk, Damaged, Newer, Memory}
use Rattle.ax_log.specs.declared.walk.Next.{Next}
use Rattle.ax_log.specs.declared.walk.Next.TheVariants.{Closed, Frame, Broken}
use Rattle.ax_log.specs.declared.window.Window.{Window}

-- the window shows the bytes of the list from its start on, and 0 past the end
abbrev pub Shows : Window → List ℕ → Type 0
Shows window list = window.bytes.items ≡ bytes_from list window.start (length window.bytes.items)

-- the nine bytes of a head are within the window
abbrev pub ReachesTo : Window → ℕ → Type 0
ReachesTo window at = (window.start ≤ at) × (at + 9 ≤ window.start + length window.bytes.items)

abbrev pub window_start : Window → ℕ
window_start window = window.start

abbrev pub window_bytes : Window → List ℕ
window_bytes window = window.bytes.items

-- a frame of so many bytes stands first
pub record IsFrameOf (bytes : List ℕ) (size : ℕ) : Type 0 where
  pub span : List ℕ
  pub rest : List ℕ
  pub fits : IsSpan span
  pub spelled : bytes ≡ open_frame span ++ rest
  pub size_is : size ≡ length (open_frame span)

-- what stands first in the bytes that are left
abbrev pub IsNext : List ℕ → Next → Type 0
IsNext bytes Closed = IsClosed bytes
IsNext bytes (Frame size) = IsFrameOf bytes size
IsNext bytes Broken = (IsClosed bytes → ⊥) × IsNoLogFrame bytes

-- a frame takes at least a byte, and no more than are left
abbrev pub Advances : Next → ℕ → Type 0
Advances Closed left = Unit {0}
Advances (Frame size) left = (0 < size) × (size ≤ left)
Advances Broken left = Unit {0}

-- log frames lead up to the place
pub record LeadsTo (bytes : List ℕ) (at : ℕ) : Type 0 where
  pub frames : List (List ℕ)
  pub spans : AreSpans frames
  pub rest : List ℕ
  pub spelled : bytes ≡ frames_bytes frames ++ rest
  pub place : at ≡ length (frames_bytes frames)

-- an area with its closed gate at this place
pub record EndsAt (bytes : List ℕ) (at : ℕ) : Type 0 where
  pub frames : List (List ℕ)
  pub area : IsArea bytes frames
  pub place : at ≡ length (frames_bytes frames)

-- what is answered of an area's end
abbrev pub IsEndOf : Extent → List ℕ → Result ℕ LogFault → Type 0
IsEndOf area bytes (Ok at) = EndsAt bytes at
IsEndOf area bytes (Err Disk) = Unit {0}
IsEndOf area bytes (Err (Damaged extent at)) = (extent ≡ extent_number area) × IsBroken bytes at
IsEndOf area bytes (Err (Newer version)) = ⊥
IsEndOf area bytes (Err Memory) = Unit {0}
