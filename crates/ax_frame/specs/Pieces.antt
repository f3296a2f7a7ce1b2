-- A log frame read in pieces, its head and each part's head on their own, as a layer does that
-- reads only a little of a file at a time.
-- From the store's own file format (docs/FORMAT.md, "Frames"); no other document has it.
use Rattle.std.specs.Prelude.{◌≡◌, ℕ, ◌≤◌, List, [], ◌∷◌, length, take, drop}
use Rattle.ax_frame.specs.declared.part.PartHead.{PartHead}
use Rattle.ax_frame.specs.declared.log_frame.FrameHead.TheVariants.{Frame}
use Rattle.ax_frame.specs.Part.{PartValue, IsPartHead}
use Rattle.ax_frame.specs.LogFrame.{IsFrameHead}

-- what the head of a part says
abbrev pub head_of_part : PartValue → PartHead
head_of_part p = record { kind = p.kind; key = p.key; len = length p.payload }

-- The first nine bytes are the head of the first part, its payload follows, and the next part
-- behind it, to the last byte.
abbrev pub PartsInPieces : List ℕ → List PartValue → Type 0
PartsInPieces bytes [] = bytes ≡ []
PartsInPieces bytes (p ∷ ps) =
    IsPartHead (take 9 bytes) (head_of_part p) × (length p.payload ≤ 65536)
    × (take (length p.payload) (drop 9 bytes) ≡ p.payload)
    × PartsInPieces (drop (length p.payload) (drop 9 bytes)) ps

-- The first nine bytes are the head of a log frame. The bytes that it spans are the parts, and the
-- rest follows them.
pub record FrameInPieces (bytes : List ℕ) (ps : List PartValue) (rest : List ℕ) : Type 0 where
  pub len : ℕ
  pub head : IsFrameHead (take 9 bytes) (Frame len)
  pub enough : len ≤ length (drop 9 bytes)
  pub parts : PartsInPieces (take len (drop 9 bytes)) ps
  pub follows : rest ≡ drop len (drop 9 bytes)
