-- What the cache by last use holds.
-- It is this project's own; it comes from no public document.
use Rattle.std.proofs.Common.{◌≡◌, ℕ, suc, ◌+◌, ◌≤◌, Bool, true, false, cond, List, [], ◌∷◌, length, map, sym, subst, arith}
use Rattle.std.proofs.lemmas.List.{length-map}
use Rattle.std.specs.FinMap as finite
use Rattle.ax_cache.specs.declared.part_key.PartKey.{PartKey}
use Rattle.ax_cache.specs.Pages.{CachedPages, key_cmp}
use Rattle.ax_cache.specs.PageLaws.{key_cmp_total}
use Rattle.ax_cache.specs.Lru.{entry_in, pages_of}
use Rattle.ax_cache.specs.declared.lru_pages.LruPages.{LruPages}

abbrev pub held : LruPages → CachedPages
held cache = pages_of (λ payload. payload.items) cache.pages.entries

abbrev pub room_of : LruPages → ℕ
room_of cache = cache.pages.cap

few_more : (b : Bool) (m n : ℕ) → m ≤ n → cond b m (m + 1) ≤ suc n
few_more true m n le = omega (arith, le)
few_more false m n le = omega (arith, le)

few : (es : List (PartKey × List ℕ)) → finite.len (finite.from_entries {R = key_cmp} es) ≤ length es
few [] = omega (arith, finite.len-empty key_cmp (List ℕ))
few (e ∷ es) =
    subst (λ n. n ≤ suc (length es)) (sym (finite.len-insert key_cmp_total (finite.from_entries {R = key_cmp} es) e.0 e.1))
    (few_more (finite.contains_key (finite.from_entries {R = key_cmp} es) e.0) (finite.len (finite.from_entries {R = key_cmp} es)) (length es) (few es))

abbrev entries_in : LruPages → List (PartKey × List ℕ)
entries_in cache = map (entry_in (λ payload. payload.items)) cache.pages.entries

same_length : (cache : LruPages) → length (entries_in cache) ≡ length cache.pages.entries
same_length cache = length-map cache.pages.entries (entry_in (λ payload. payload.items))

-- it never holds more keys than there is room for
pub few_held : (cache : LruPages) → finite.len (held cache) ≤ room_of cache
few_held cache = omega (arith, few (entries_in cache), cache.few, same_length cache)
