-- What a page cache may hold of a store: under keys of the area that counts, in its generation, only
-- bytes that stand in the log's frames at the offset of the key.
-- It is this project's own; it comes from no public document.
use Rattle.std.specs.Prelude.{◌≡◌, ℕ, ◌+◌, ◌≤◌, List, length, take, drop, Some}
use Rattle.std.specs.FinMap as map
use Rattle.ax_disk.specs.declared.extent.Extent.{Extent}
use Rattle.ax_pages.specs.Area.{extent_number}
use Rattle.ax_cache.specs.declared.part_key.PartKey.{PartKey}
use Rattle.ax_cache.specs.Pages.{CachedPages}

-- the key of bytes that stand at an offset of an area in a generation
abbrev pub key_of : Extent → ℕ → ℕ → PartKey
key_of area generation offset = record { area = extent_number area; generation = generation; offset = offset }

-- at an offset the text has these bytes
pub record HasBytesAt (text : List ℕ) (offset : ℕ) (bytes : List ℕ) : Type 0 where
  pub within : offset + length bytes ≤ length text
  pub is : take (length bytes) (drop offset text) ≡ bytes

pub record HoldsParts (pages : CachedPages) (area : Extent) (generation : ℕ) (text : List ℕ) : Type 0 where
  pub each : (offset : ℕ) (bytes : List ℕ) → map.get pages (key_of area generation offset) ≡ Some bytes → HasBytesAt text offset bytes
