-- What a page cache holds: a finite map from the places of parts to payloads.
-- It is this project's own; it comes from no public document.
use Rattle.std.specs.Prelude.{◌≡◌, ℕ, Bool, true, false, not, ◌&&◌, ◌==◌, List}
use Rattle.std.specs.declared.cmp.Ordering.{Ordering}
use Rattle.std.specs.Ordering.{nat_cmp, on, then_cmp}
use Rattle.std.specs.FinMap as map
use Rattle.ax_cache.specs.declared.part_key.PartKey.{PartKey}

-- by area, then generation, then offset
abbrev pub key_cmp : PartKey → PartKey → Ordering
key_cmp = then_cmp (on (λ key. key.area) nat_cmp) (then_cmp (on (λ key. key.generation) nat_cmp) (on (λ key. key.offset) nat_cmp))

abbrev pub CachedPages : Type 0
CachedPages = map.FinMap key_cmp (List ℕ)

-- the greatest length of a payload
abbrev pub most_bytes : ℕ
most_bytes = 65536

-- the key is absent, and as many keys are held as there is room for
abbrev pub is_full_for : ℕ → PartKey → CachedPages → Bool
is_full_for room key pages = not (map.contains_key pages key) && (map.len pages == room)

-- the payload was put under the key, and all other keys stay, but for one that is dropped where there is no room
abbrev pub IsPut : Bool → PartKey → List ℕ → CachedPages → CachedPages → Type 0
IsPut false key payload old new = new ≡ map.insert old key payload
IsPut true key payload old new = (other : PartKey) × (map.contains_key old other ≡ true) × (new ≡ map.insert (map.remove old other) key payload)

abbrev pub IsPutWithin : ℕ → PartKey → List ℕ → CachedPages → CachedPages → Type 0
IsPutWithin room key payload old new = IsPut (is_full_for room key old) key payload old new
