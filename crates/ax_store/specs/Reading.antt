-- What reading bytes through a page cache does.
-- It is this project's own; it comes from no public document.
use Rattle.std.specs.Prelude.{◌≡◌, ◌⊎◌, ℕ, Bool, true, false, List, length, Some}
use Rattle.std.specs.FinMap as map
use Rattle.ax_cache.specs.declared.part_key.PartKey.{PartKey}
use Rattle.ax_cache.specs.Pages.{CachedPages}
use Rattle.ax_pool.specs.Frames.{written_over}

-- bytes of that length were held under the key, and were written over the front of the frame; or the frame is as it was
abbrev pub IsFound : Bool → CachedPages → PartKey → ℕ → List ℕ → List ℕ → Type 0
IsFound true pages key len old new =
    (bytes : List ℕ) × (map.get pages key ≡ Some bytes) × (length bytes ≡ len) × (new ≡ written_over bytes old)
IsFound false pages key len old new = new ≡ old

-- what is held after the bytes were given under a key, was held before, or is these bytes under that key
pub record IsKept (key : PartKey) (bytes : List ℕ) (old new : CachedPages) : Type 0 where
  pub each : (other : PartKey) (held : List ℕ) → map.get new other ≡ Some held
      → (map.get old other ≡ Some held) ⊎ ((other ≡ key) × (held ≡ bytes))
