-- Log frames, of which an area of the store is made: a gate, a length and a list of parts.
-- From the store's own file format (docs/FORMAT.md, "Frames"); no other document has it.
use Rattle.std.specs.Prelude.{◌≡◌, ◌≢◌, ℕ, ◌<◌, ◌^◌, List, [], ◌∷◌, ◌++◌, length, slice_index}
use Rattle.std.specs.Int.{w64, to_le_bytes}
use Rattle.ax_frame.specs.declared.log_frame.FrameHead.{FrameHead}
use Rattle.ax_frame.specs.declared.log_frame.FrameHead.TheVariants.{Closed, Frame, Bad}
use Rattle.ax_frame.specs.Part.{PartValue, parts_bytes, AllFit}

-- the open gate, and the length in eight bytes, low bytes first
abbrev pub open_head : ℕ → List ℕ
open_head len = 1 ∷ to_le_bytes w64 len

-- an open frame round these bytes
abbrev pub open_frame : List ℕ → List ℕ
open_frame body = open_head (length body) ++ body

-- the one spelling of an open log frame of these parts
abbrev pub frame_bytes : List PartValue → List ℕ
frame_bytes ps = open_frame (parts_bytes ps)

-- what a log frame can have: at least one part, each with a spelling, and no more bytes than its
-- length can say
pub record CanFrame (ps : List PartValue) : Type 0 where
  pub some : ps ≢ []
  pub fit : AllFit ps
  pub length_fits : length (parts_bytes ps) < 2 ^ 64

-- the bytes begin with an open log frame of these parts, and the rest follows it
pub record BeginsWithFrame (bytes : List ℕ) (ps : List PartValue) (rest : List ℕ) : Type 0 where
  pub can : CanFrame ps
  pub spelled : bytes ≡ frame_bytes ps ++ rest

-- the bytes begin with no open log frame, whatever its parts and whatever follows
abbrev pub NoFrame : List ℕ → Type 0
NoFrame bytes = (ps : List PartValue) (rest : List ℕ) → BeginsWithFrame bytes ps rest → ⊥

-- What nine bytes are as the head of a log frame. The gate is closed where the first is not 1.
-- An open gate with a length of at least 1 begins a log frame; with a length of 0 it is bad.
abbrev pub IsFrameHead : List ℕ → FrameHead → Type 0
IsFrameHead bytes Closed = slice_index bytes 0 ≢ 1
IsFrameHead bytes (Frame len) = (0 < len) × (len < 2 ^ 64) × (bytes ≡ open_head len)
IsFrameHead bytes Bad = bytes ≡ open_head 0
