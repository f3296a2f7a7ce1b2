-- What a cache over a map by last use holds: its entries as a finite map from places of parts to
-- payloads.
-- It is this project's own; it comes from no public document.
use Rattle.std.specs.Prelude.{ℕ, List, map}
use Rattle.std.specs.FinMap as finite
use Rattle.ax_cache.specs.declared.part_key.PartKey.{PartKey}
use Rattle.ax_cache.specs.Pages.{CachedPages}

module _ {V : Type 0} (shown : V → List ℕ) where
  abbrev pub entry_in : PartKey × V → PartKey × List ℕ
  entry_in e = (e.0, shown e.1)

  abbrev pub pages_of : List (PartKey × V) → CachedPages
  pages_of es = finite.from_entries (map entry_in es)
