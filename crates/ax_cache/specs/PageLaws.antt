-- Laws of what a page cache holds: the order of keys is total, and nothing can be taken from what is empty.
-- It is this project's own; it comes from no public document.
use Rattle.std.proofs.Common.{◌≡◌, ℕ, ◌≤◌, Bool, cond, List, is_some, ◌-◌, sym, ap, ◌∙◌, arith}
use Rattle.std.specs.Cmp.{IsTotalOrder}
use Rattle.std.proofs.lemmas.Cmp.{then_total, on_total, nat_cmp_total}
use Rattle.std.specs.FinMap as map
use Rattle.ax_cache.specs.declared.part_key.PartKey.{PartKey}
use Rattle.ax_cache.specs.Pages.{key_cmp, CachedPages}

pub key_cmp_total : IsTotalOrder key_cmp
key_cmp_total = then_total (on_total (λ (key : PartKey). key.area) nat_cmp_total)
    (then_total (on_total (λ (key : PartKey). key.generation) nat_cmp_total) (on_total (λ (key : PartKey). key.offset) nat_cmp_total))

abbrev pub no_pages : CachedPages
no_pages = map.empty

pub none_held : map.len no_pages ≡ 0
none_held = map.len-empty key_cmp (List ℕ)

pub nothing_removed : (key : PartKey) → no_pages ≡ map.remove no_pages key
nothing_removed key =
    sym (map.empty_of_len (map.remove no_pages key)
    (map.len-remove key_cmp_total no_pages key
    ∙ ap (λ (held : Bool). cond held (map.len no_pages - 1) (map.len no_pages)) (ap is_some (map.get-empty key_cmp key))
    ∙ none_held))

-- a cache with room for none holds no more
pub none_within : map.len no_pages ≤ 0
none_within = omega (arith, none_held)
