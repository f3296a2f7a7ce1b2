-- What the bytes of an area are: log frames one after another, up to a closed gate; or frames up to
-- a place where neither a frame nor a closed gate stands. A log frame is here the bytes that it
-- spans, whatever they mean. And how a list is named by a number, as damage names it.
-- From the store's own file format (docs/FORMAT.md, "Frames"); no other document has it.
use Rattle.std.specs.Prelude.{◌≡◌, ◌≢◌, ℕ, ◌<◌, ◌^◌, List, ◌++◌, length, slice_index}
use Rattle.std.specs.List.{flat_map, AllByRecursion}
use Rattle.ax_disk.specs.declared.extent.Extent.{Extent}
use Rattle.ax_disk.specs.declared.extent.Extent.TheVariants.{Root, A, B}
use Rattle.ax_frame.specs.LogFrame.{open_frame}

-- what a log frame can span: at least one byte, and no more than its length can say
pub record IsSpan (bytes : List ℕ) : Type 0 where
  pub some : 0 < length bytes
  pub fits : length bytes < 2 ^ 64

abbrev pub AreSpans : List (List ℕ) → Type 0
AreSpans frames = AllByRecursion IsSpan frames

-- the spelling of log frames, each with its open gate, one after another
abbrev pub frames_bytes : List (List ℕ) → List ℕ
frames_bytes frames = flat_map open_frame frames

-- a closed gate stands first: a byte that is not 1
abbrev pub IsClosed : List ℕ → Type 0
IsClosed bytes = (0 < length bytes) × (slice_index bytes 0 ≢ 1)

-- no log frame stands first
abbrev pub IsNoLogFrame : List ℕ → Type 0
IsNoLogFrame bytes = (span rest : List ℕ) → IsSpan span → bytes ≡ open_frame span ++ rest → ⊥

-- The bytes are these log frames, and behind them stands a closed gate. What follows it has no
-- meaning.
pub record IsArea (bytes : List ℕ) (frames : List (List ℕ)) : Type 0 where
  pub spans : AreSpans frames
  pub rest : List ℕ
  pub spelled : bytes ≡ frames_bytes frames ++ rest
  pub closed : IsClosed rest

-- Log frames lead up to the place, and there the bytes end, or an open gate stands and no frame:
-- its length is 0, or runs past the end.
pub record IsBroken (bytes : List ℕ) (at : ℕ) : Type 0 where
  pub frames : List (List ℕ)
  pub spans : AreSpans frames
  pub rest : List ℕ
  pub spelled : bytes ≡ frames_bytes frames ++ rest
  pub place : at ≡ length (frames_bytes frames)
  pub not_closed : IsClosed rest → ⊥
  pub no_frame : IsNoLogFrame rest

-- a list of the disk as a number
abbrev pub extent_number : Extent → ℕ
extent_number Root = 0
extent_number A = 1
extent_number B = 2
