-- The names of a `BTreeMap`'s entries, which rise since its keys do.
use Rattle.std.proofs.Common.{◌≡◌, ℕ, List, [], ◌∷◌, map, true, ◌&&◌, String, Global, string_bytes, string_cmp, refl, ap, ◌∙◌}
use Rattle.std.specs.List.Sorted.{IsStrictlySortedBy}
use Rattle.std.specs.Map.{keys_of}
use Rattle.std.specs.Ordering.{is_lt}
use Rattle.serde_json.specs.declared.value.Value.{Value}
use Rattle.ax_tree.specs.Rising.{is_rising}

abbrev pub Entry : Type 0
Entry = String Global × Value

abbrev pub entry_names : List Entry → List (List ℕ)
entry_names entries = map (λ e. string_bytes e.0) entries

pub entry_names-rise : (entries : List Entry) → IsStrictlySortedBy string_cmp (keys_of entries)
    → is_rising (entry_names entries) ≡ true
unfolding IsStrictlySortedBy
entry_names-rise [] h = refl
entry_names-rise (e ∷ []) h = refl
entry_names-rise (e ∷ next ∷ rest) h =
    ap (λ b. b && is_rising (entry_names (next ∷ rest))) (ap is_lt h.0.0)
    ∙ entry_names-rise (next ∷ rest) h.1
