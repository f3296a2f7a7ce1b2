-- How a change is written: as one item. What says no version is of the kinds that the first version
-- has; what says one is of the later kinds, and a document that one part cannot have is a long one.
-- So a writer of any version has its own form, by the changes that it makes.
-- From the store's own file format (docs/FORMAT.md, "Parts"); no other document has it.
use Rattle.std.specs.Prelude.{◌≡◌, ℕ, zero, suc, ◌+◌, ◌<◌, ◌≤◌, ◌^◌, nat_le, if◌then◌else◌}
use Rattle.std.specs.Prelude.{List, [], ◌∷◌, ◌++◌, length, take, drop, is_some, true}
use Rattle.std.specs.Prelude.{Option, Some, None}
use Rattle.std.specs.List.{flat_map}
use Rattle.std.specs.Int.{w32, w64, to_le_bytes}
use Rattle.ax_pair.specs.Low.{low_in}
use Rattle.ax_frame.specs.Part.{PartValue}
use Rattle.ax_pages.specs.AfterPart.{last_policy}
use Rattle.ax_pages.specs.declared.numbers.TheConstants.{PLAIN_META, POLICY, PLAIN_DOCUMENT, GONE}
use Rattle.ax_pages.specs.declared.numbers.TheConstants.{BASE, DELTA, DOCUMENT, META}
use Rattle.ax_pages.specs.declared.numbers.TheConstants.{LONG_DOCUMENT, PIECE}
use Rattle.ax_pages.specs.declared.numbers.TheConstants.{VERSIONS_SINCE, PIECES_SINCE}
use Rattle.ax_area.specs.Items.{Item, single, item_bytes, first_bytes, piece_bytes}
use Rattle.ax_area.specs.Changes.{Change, Written, Numbers, most_short}
use Rattle.ax_area.specs.Changes as change
use Rattle.ax_area.specs.Told.{Told}

-- ---- items

abbrev pub part : ℕ → ℕ → List ℕ → PartValue
part kind key payload = record { kind = kind; key = key; payload = payload }

-- the next number and the policy now
abbrev pub numbers_bytes : ℕ → ℕ → List ℕ
numbers_bytes next policy = to_le_bytes w32 next ++ to_le_bytes w32 policy

abbrev pub meta_part : ℕ → ℕ → Option ℕ → PartValue
meta_part next policy None = part PLAIN_META 0 (numbers_bytes next policy)
meta_part next policy (Some version) =
    part META 0 (numbers_bytes next policy ++ to_le_bytes w64 version)

-- the pieces of a text, at most so many
abbrev pub pieces_within : ℕ → ℕ → List ℕ → List PartValue
pieces_within zero key text = []
pieces_within (suc most) key [] = []
pieces_within (suc most) key (byte ∷ text) =
    part PIECE key (take piece_bytes (byte ∷ text))
    ∷ pieces_within most key (drop piece_bytes (byte ∷ text))

abbrev pub pieces_of : ℕ → List ℕ → List PartValue
pieces_of key text = pieces_within (length text) key text

-- the policy's number and the version, in front of a text
abbrev pub front : ℕ → ℕ → List ℕ
front policy version = policy ∷ to_le_bytes w64 version

abbrev pub long_item : ℕ → ℕ → ℕ → List ℕ → Item
long_item number policy version text = record {
  first = part LONG_DOCUMENT number
      (front policy version ++ to_le_bytes w32 (length text) ++ take first_bytes text);
  pieces = pieces_of number (drop first_bytes text);
}

abbrev pub document_item : ℕ → ℕ → Option ℕ → List ℕ → Item
document_item number policy None text = single (part PLAIN_DOCUMENT number (policy ∷ text))
document_item number policy (Some version) text =
    if nat_le (length text) most_short
    then single (part DOCUMENT number (front policy version ++ text))
    else long_item number policy version text

abbrev pub item_of : Change → Item
item_of (change.Meta numbers) = single (meta_part numbers.next numbers.policy numbers.version)
item_of (change.Policy number text) = single (part POLICY number text)
item_of (change.Document number written) =
    document_item number written.policy written.version written.text
item_of (change.Gone number) = single (part GONE number [])
item_of (change.Base page payload) = single (part BASE page payload)
item_of (change.Delta page payload) = single (part DELTA page payload)

-- ---- what an area of a version can have written in it

-- a number from 1 on, of 32 bits
pub record IsNumber (number : ℕ) : Type 0 where
  pub some : 0 < number
  pub fits : number < 2 ^ 32

-- a version from 1 on, of 64 bits, where the area's version has kinds that say one
pub record IsVersion (area value : ℕ) : Type 0 where
  pub known : VERSIONS_SINCE ≤ area
  pub some : 0 < value
  pub fits : value < 2 ^ 64

-- no version, or one that can be said
abbrev pub CanSay : ℕ → Option ℕ → Type 0
CanSay area None = Unit {0}
CanSay area (Some value) = IsVersion area value

-- so many bytes of text beside no version, or beside one
pub record CanBeLong (area len : ℕ) : Type 0 where
  pub known : most_short < len → PIECES_SINCE ≤ area
  pub fits : len < 2 ^ 32

abbrev pub CanHave : ℕ → Option ℕ → ℕ → Type 0
CanHave area None len = len < piece_bytes
CanHave area (Some value) len = CanBeLong area len

abbrev pub CanWrite : ℕ → Change → Type 0
CanWrite area (change.Meta numbers) =
    IsNumber numbers.next × (numbers.policy < 2 ^ 32) × CanSay area numbers.version
CanWrite area (change.Policy number text) = (number ≤ last_policy) × (length text ≤ piece_bytes)
CanWrite area (change.Document number written) =
    IsNumber number × CanSay area written.version
    × CanHave area written.version (length written.text)
CanWrite area (change.Gone number) = IsNumber number
CanWrite area (change.Base page payload) =
    (page < 2 ^ 32) × (length payload ≤ piece_bytes) × (is_some (low_in payload) ≡ true)
CanWrite area (change.Delta page payload) = (page < 2 ^ 32) × (length payload ≤ piece_bytes)

-- ---- changes one behind another

-- the bytes by which changes are written
abbrev pub written_bytes : List Change → List ℕ
written_bytes changes = flat_map (λ change. item_bytes (item_of change)) changes

-- what they tell, from an offset on
abbrev pub told_from : ℕ → List Change → List Told
told_from at [] = []
told_from at (change ∷ changes) =
    record { at = at; item = item_of change; change = change }
    ∷ told_from (at + length (item_bytes (item_of change))) changes
