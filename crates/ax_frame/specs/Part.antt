-- Parts, the unit of what a store writes: a kind, a key and a payload, and the one spelling of each
-- list of them. From the store's own file format (docs/FORMAT.md, "Parts"); no other document has
-- it.
use Rattle.std.specs.Prelude.{◌≡◌, ℕ, ◌<◌, ◌≤◌, ◌^◌, List, ◌∷◌, ◌++◌, length}
use Rattle.std.specs.List.{flat_map, AllByRecursion}
use Rattle.std.specs.Int.{w32, to_le_bytes}
use Rattle.ax_frame.specs.declared.part.Part.{Part}
use Rattle.ax_frame.specs.declared.part.PartHead.{PartHead}

-- a part without where it lies in memory
pub record PartValue : Type 0 where
  pub kind : ℕ
  pub key : ℕ
  pub payload : List ℕ

-- a `Part`, without where its payload lies in memory
abbrev pub part_value : Part → PartValue
part_value p = record { kind = p.kind; key = p.key; payload = p.payload.now }

-- the first nine bytes: kind, key and length, low bytes first
abbrev pub head_bytes : ℕ → ℕ → ℕ → List ℕ
head_bytes kind key len = kind ∷ to_le_bytes w32 key ++ to_le_bytes w32 len

-- the head, and as many bytes as it says
abbrev pub part_bytes : PartValue → List ℕ
part_bytes p = head_bytes p.kind p.key (length p.payload) ++ p.payload

-- one part after another
abbrev pub parts_bytes : List PartValue → List ℕ
parts_bytes ps = flat_map part_bytes ps

-- What has a spelling. That kind and payload are bytes needs no saying: they stand in the spelling
-- as they are.
pub record Fits (p : PartValue) : Type 0 where
  pub key_fits : p.key < 2 ^ 32
  pub payload_fits : length p.payload ≤ 65536

abbrev pub AllFit : List PartValue → Type 0
AllFit ps = AllByRecursion Fits ps

-- the bytes are nothing but parts
pub record AreParts (bytes : List ℕ) : Type 0 where
  pub parts : List PartValue
  pub fit : AllFit parts
  pub spelled : bytes ≡ parts_bytes parts

-- the bytes begin with this part, and the rest follows it
pub record BeginsWithPart (bytes : List ℕ) (p : PartValue) (rest : List ℕ) : Type 0 where
  pub fit : Fits p
  pub spelled : bytes ≡ part_bytes p ++ rest

-- the bytes begin with no part, whichever it is and whatever follows
abbrev pub NoPart : List ℕ → Type 0
NoPart bytes = (p : PartValue) (rest : List ℕ) → BeginsWithPart bytes p rest → ⊥

-- nine bytes are the head of a part: they say this kind, key and length, whether or not so long a
-- payload is allowed
pub record IsPartHead (bytes : List ℕ) (head : PartHead) : Type 0 where
  pub spelled : bytes ≡ head_bytes head.kind head.key head.len
  pub key_fits : head.key < 2 ^ 32
  pub len_fits : head.len < 2 ^ 32
