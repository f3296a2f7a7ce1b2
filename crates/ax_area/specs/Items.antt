-- Items, of which a frame is: one part, or the first part of a long document with all its pieces.
-- From the store's own file format (docs/FORMAT.md, "Parts"); no other document has it.
use Rattle.std.specs.Prelude.{◌≡◌, ℕ, ◌<◌, ◌-◌, ◌==◌, ◌&&◌, if◌then◌else◌, min}
use Rattle.std.specs.Prelude.{List, [], ◌∷◌, length, take, drop}
use Rattle.std.specs.Int.{w32, w64, from_le_bytes}
use Rattle.ax_frame.specs.Part.{PartValue, parts_bytes, AllFit}
use Rattle.ax_pages.specs.declared.numbers.TheConstants.{LONG_DOCUMENT, PIECE}

pub record Item : Type 0 where
  pub first : PartValue
  -- behind it, in the same frame
  pub pieces : List PartValue

abbrev pub item_parts : Item → List PartValue
item_parts item = item.first ∷ item.pieces

abbrev pub item_bytes : Item → List ℕ
item_bytes item = parts_bytes (item_parts item)

-- the number of 32 bits, or of 64, that stands at a place of a payload
abbrev pub number_at : ℕ → List ℕ → ℕ
number_at place payload = from_le_bytes w32 (take 4 (drop place payload))

abbrev pub long_number_at : ℕ → List ℕ → ℕ
long_number_at place payload = from_le_bytes w64 (take 8 (drop place payload))

-- the bytes of a long document's text that stand in its first part
abbrev pub first_bytes : ℕ
first_bytes = 65523

-- the most bytes of a piece
abbrev pub piece_bytes : ℕ
piece_bytes = 65536

-- how many bytes of text are missing behind a part: those of a long document that its first part,
-- which is full, has not
abbrev pub missing_behind : PartValue → ℕ
missing_behind part =
    if part.kind == LONG_DOCUMENT && length part.payload == piece_bytes
    then number_at 9 part.payload - first_bytes else 0

-- One piece for so many missing bytes: as many as it can have.
pub record IsPiece (key missing : ℕ) (piece : PartValue) : Type 0 where
  pub due : 0 < missing
  pub kind : piece.kind ≡ PIECE
  pub key_is : piece.key ≡ key
  pub length_is : length piece.payload ≡ min piece_bytes missing

-- the pieces have all the missing bytes
abbrev pub ArePieces : ℕ → ℕ → List PartValue → Type 0
ArePieces key missing [] = missing ≡ 0
ArePieces key missing (piece ∷ pieces) =
    IsPiece key missing piece × ArePieces key (missing - piece_bytes) pieces

-- what an item is: its parts have a spelling, and behind a long document all its pieces stand
pub record IsItem (item : Item) : Type 0 where
  pub fit : AllFit (item_parts item)
  pub pieces : ArePieces item.first.key (missing_behind item.first) item.pieces

-- a part by itself
abbrev pub single : PartValue → Item
single part = record { first = part; pieces = [] }
