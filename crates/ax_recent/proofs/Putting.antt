-- What a table has after an entry was put at the place of its id.
use Rattle.std.proofs.Common.{◌≡◌, ◌≢◌, ℕ, ◌<◌, ◌⊎◌, List, length, set, Option, Some, refl, ap, subst, ◌∙◌, sym, ⊎_elim, inl, inr}
use Rattle.std.specs.List.{Contains}
use Rattle.std.specs.Option.{option_map}
use Rattle.std.proofs.lemmas.Option.{same_Some}
use Rattle.ax_recent.specs.declared.entry.Entry.{Entry}
use Rattle.ax_recent.specs.Hash.{place_of}
use Rattle.ax_recent.specs.Table.{id_of, pair_of, Holds, entries_of, at_place_of, IsTable}
use Rattle.ax_recent.proofs.Places.{found, held, held_after, place_within, table_again}

module _ (places : List (Option Entry)) (entry : Entry) (table : IsTable places) where
  abbrev at : ℕ
  at = place_of (id_of entry) (length places)

  within : at < length places
  within = place_within (id_of entry) (length places) table.some

  abbrev with_entry : List (Option Entry)
  with_entry = set places at (Some entry)

  table_put : IsTable with_entry
  table_put = table_again places at (Some entry) table (λ other same.
      let e : entry ≡ other = cc in ap (λ (i : List ℕ). place_of i (length places)) (ap id_of (sym e)))

  there : Contains (entries_of with_entry) (pair_of entry)
  there = found with_entry (id_of entry) entry.number table_put
      (⊎_elim (λ same. ap (option_map pair_of) same.1) (λ other. absurd (other.0 refl))
      (held_after places at (Some entry) (id_of entry) within))

  -- it, or of another id
  only : (pair : List ℕ × ℕ) → Contains (entries_of with_entry) pair
      → (pair ≡ pair_of entry) ⊎ (Contains (entries_of places) pair × (pair.0 ≢ id_of entry))
  only pair has =
      let holds : Holds (at_place_of with_entry pair.0) pair.0 pair.1 = held with_entry pair.0 pair.1 table_put has in
      ⊎_elim
      (λ same. inl (same_Some pair (pair_of entry) (sym holds ∙ ap (option_map pair_of) same.1)))
      (λ other. inr (
        found places pair.0 pair.1 table (ap (option_map pair_of) (sym other.1) ∙ holds),
        λ e. other.0 (ap (λ (i : List ℕ). place_of i (length places)) e),
      ))
      (held_after places at (Some entry) pair.0 within)

  module _ (new : List (Option Entry)) (made : new ≡ with_entry) (put : List ℕ × ℕ) (is : pair_of entry ≡ put) where
    -- so it is there
    pub put_there : Contains (entries_of new) put
    put_there = subst (λ (p : List ℕ × ℕ). Contains (entries_of new) p) is
        (subst (λ (ps : List (Option Entry)). Contains (entries_of ps) (pair_of entry)) (sym made) there)

    -- and what else is there was there, of another id
    pub put_only : (pair : List ℕ × ℕ) → Contains (entries_of new) pair
        → (pair ≡ put) ⊎ (Contains (entries_of places) pair × (pair.0 ≢ put.0))
    put_only pair has =
        subst (λ (p : List ℕ × ℕ). (pair ≡ p) ⊎ (Contains (entries_of places) pair × (pair.0 ≢ p.0))) is
        (only pair (subst (λ (ps : List (Option Entry)). Contains (entries_of ps) pair) made has))
