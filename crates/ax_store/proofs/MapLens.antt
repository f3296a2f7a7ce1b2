-- How many numbers a map has, after one is put or taken away.
use Rattle.std.proofs.Common.{◌≡◌, ℕ, suc, ◌+◌, ◌-◌, ◌≤◌, Bool, true, false, List, [], ◌∷◌, length, Some, None, is_some, refl, sym, ap, ◌∙◌, arith, inl, inr}
use Rattle.std.specs.Prelude.{option_map, if◌then◌else◌}
use Rattle.std.specs.Ordering.{nat_cmp}
use Rattle.std.specs.Cmp.{nat_cmp_total}
use Rattle.std.specs.FinMap as map
use Rattle.std.proofs.lemmas.Bool.{cases_lt}
use Rattle.ax_store.specs.declared.row.Row.{Row}
use Rattle.ax_store.specs.declared.kept_part.KeptPart.{KeptPart}
use Rattle.ax_store.specs.Rows.{add_entry, entries_of, map_of}

true_or_false : true ≡ false → ⊥
true_or_false e = cc

module _ {X : Type 0} where
  pub len_put : (m : map.FinMap nat_cmp X) (k : ℕ) (x : X) (held : Bool) → held ≡ map.contains_key m k
      → map.len (map.insert m k x) ≡ (if held then map.len m else map.len m + 1)
  len_put m k x held is = map.len-insert nat_cmp_total m k x ∙ ap (λ b. if b then map.len m else map.len m + 1) (sym is)

  pub len_cleared : (m : map.FinMap nat_cmp X) (k : ℕ) (held : Bool) → held ≡ map.contains_key m k
      → map.len (map.remove m k) ≡ (if held then map.len m - 1 else map.len m)
  len_cleared m k held is = map.len-remove nat_cmp_total m k ∙ ap (λ b. if b then map.len m - 1 else map.len m) (sym is)

  pub some_held : (m : map.FinMap nat_cmp X) (k : ℕ) → map.contains_key m k ≡ true → 1 ≤ map.len m
  some_held m k held = elim (cases_lt 0 (map.len m)) [
    | inl above ↦ omega (arith, above)
    | inr none ↦ absurd (true_or_false (sym held ∙ ap is_some (ap (λ n. map.get n k) (map.empty_of_len m (omega (arith, none))) ∙ map.get-empty nat_cmp k)))
  ]

  insert_longer : (m : map.FinMap nat_cmp X) (k n : ℕ) (x : X) → map.len m ≤ n → map.len (map.insert m k x) ≤ n + 1
  insert_longer m k n x le = elim (map.contains_key m k) as (λ b. map.contains_key m k ≡ b → map.len (map.insert m k x) ≤ n + 1) [
    | true ↦ λ e. omega (arith, le, len_put m k x true (sym e))
    | false ↦ λ e. omega (arith, le, len_put m k x false (sym e))
  ] refl

module _ {X : Type 0} (shown : KeptPart → X) where
  pub len_of_rows : (rows : List Row) → map.len (map_of shown rows) ≤ length rows
  len_of_rows [] = omega (arith, map.len-empty nat_cmp X)
  len_of_rows (row ∷ rows) =
      elim (option_map shown row.part) as
      (λ o. map.len (map.from_entries {R = nat_cmp} (add_entry shown row.number o (entries_of shown rows))) ≤ suc (length rows)) [
        | None ↦ omega (arith, len_of_rows rows)
        | Some x ↦ omega (arith, insert_longer (map_of shown rows) row.number (length rows) x (len_of_rows rows))
      ]
