-- The parts that bytes spell, as contracts see a `PartsText` and a `FrameParts`. It is the inverse
-- of the spelling in Part (docs/FORMAT.md, "Parts"): of any other bytes it says nothing, and no
-- clause cites it.
use Rattle.std.specs.Prelude.{◌≡◌, ℕ, zero, suc, List, [], ◌∷◌, length, take, drop}
use Rattle.std.specs.Int.{w32, from_le_bytes}
use Rattle.ax_frame.specs.Part.{PartValue, parts_bytes, AllFit}

-- the length that the head of a part says, behind its kind
abbrev pub len_after_kind : List ℕ → ℕ
len_after_kind bytes = from_le_bytes w32 (take 4 (drop 4 bytes))

-- the part with which the bytes begin, and the bytes after it
abbrev pub first_part : List ℕ → PartValue × List ℕ
first_part [] = (record { kind = 0; key = 0; payload = [] }, [])
first_part (kind ∷ bytes) = (
  record { kind = kind; key = from_le_bytes w32 (take 4 bytes); payload = take (len_after_kind bytes) (drop 8 bytes) },
  drop (len_after_kind bytes) (drop 8 bytes),
)

-- at most so many parts, from the first on
unfoldable pub parts_within : ℕ → List ℕ → List PartValue
parts_within zero bytes = []
parts_within (suc most) [] = []
parts_within (suc most) (kind ∷ bytes) = (first_part (kind ∷ bytes)).0 ∷ parts_within most (first_part (kind ∷ bytes)).1

-- all parts: each takes a byte at least
unfoldable pub parts_in : List ℕ → List PartValue
parts_in bytes = parts_within (length bytes) bytes

-- the bytes are the spelling of the parts that they are seen as
unfoldable pub Spells : List ℕ → Type 0
Spells bytes = AllFit (parts_in bytes) × (bytes ≡ parts_bytes (parts_in bytes))
