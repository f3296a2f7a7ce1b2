-- What is read at the place of an id, and what is left where the place is given to what it holds without the id.
use Rattle.std.proofs.Common.{◌≡◌, ◌≢◌, ℕ, ◌<◌, ◌↔◌, List, length, get_or, set, Option, Some, None, refl, ap, subst, ◌∙◌, sym, ⊎_elim, arith}
use Rattle.std.specs.List.{Contains}
use Rattle.std.specs.Option.{option_map}
use Rattle.std.proofs.lemmas.List.{get_or_default, set-get_or}
use Rattle.std.proofs.lemmas.Option.{none-some, same_Some}
use Rattle.ax_recent.specs.declared.entry.Entry.{Entry}
use Rattle.ax_recent.specs.Hash.{place_of}
use Rattle.ax_recent.specs.Table.{pair_of, Holds, entries_of, at_place_of, IsTable, IsWithout}
use Rattle.ax_recent.proofs.Places.{found, held, held_after, place_within, table_again}

module _ (places : List (Option Entry)) (id : List ℕ) (at : ℕ) (own : at ≡ place_of id (length places))
    (table : IsTable places) where
  within_them : at < length places
  within_them = omega (arith, own, place_within id (length places) table.some)

  read : (place : Option Entry) → place ≡ get_or places at place → place ≡ get_or places at None
  read place is = is ∙ get_or_default places at place None within_them

  holds_there : (place : Option Entry) (number : ℕ) → place ≡ get_or places at place
      → option_map pair_of place ≡ option_map pair_of (at_place_of places id)
  holds_there place number is = ap (option_map pair_of) (read place is ∙ ap (λ (k : ℕ). get_or places k None) own)

  -- the number that is read there is that of the id
  pub found_there : (place : Option Entry) → place ≡ get_or places at place
      → (number : ℕ) → Holds place id number → Contains (entries_of places) (id, number)
  found_there place is number holds = found places id number table (sym (holds_there place number is) ∙ holds)

  -- and where none is, the id has none
  pub absent_there : (place : Option Entry) → place ≡ get_or places at place → ((number : ℕ) → Holds place id number → ⊥)
      → (number : ℕ) → Contains (entries_of places) (id, number) → ⊥
  absent_there place is none number has =
      none number (holds_there place number is ∙ held places id number table has)

  abbrev left : List (Option Entry)
  left = set places at None

  table_left : IsTable left
  table_left = table_again places at None table (λ other same. absurd (cc))

  -- what is left by an empty place was there
  left_was : (pair : List ℕ × ℕ) → Contains (entries_of left) pair
      → Contains (entries_of places) pair × (pair.0 ≢ id)
  left_was pair has =
      let holds : Holds (at_place_of left pair.0) pair.0 pair.1 = held left pair.0 pair.1 table_left has in
      ⊎_elim
      (λ same. absurd (none-some pair (ap (option_map pair_of) (sym same.1) ∙ holds)))
      (λ other. (
        found places pair.0 pair.1 table (ap (option_map pair_of) (sym other.1) ∙ holds),
        λ e. other.0 (ap (λ (i : List ℕ). place_of i (length places)) e ∙ sym own),
      ))
      (held_after places at None pair.0 within_them)

  -- and all of other ids that was there is left, if the place had none of another id
  left_there : ((pair : List ℕ × ℕ) → Holds (get_or places at None) pair.0 pair.1 → pair.0 ≡ id)
      → (pair : List ℕ × ℕ) → pair.0 ≢ id → Contains (entries_of places) pair → Contains (entries_of left) pair
  left_there none pair other has =
      let holds : Holds (at_place_of places pair.0) pair.0 pair.1 = held places pair.0 pair.1 table has in
      ⊎_elim
      (λ same. absurd (other (none pair
      (ap (λ (k : ℕ). option_map pair_of (get_or places k None)) (sym same.0) ∙ holds))))
      (λ away. found left pair.0 pair.1 table_left (ap (option_map pair_of) away.1 ∙ holds))
      (held_after places at None pair.0 within_them)

  abbrev without : Option Entry → List (Option Entry)
  without after = set places at after

  emptied : (after : Option Entry) → after ≡ None → without after ≡ left
  emptied after none = ap without none

  kept : (before after : Option Entry) → before ≡ get_or places at None → after ≡ before → without after ≡ places
  kept before after is same = ap without (same ∙ is) ∙ set-get_or places at None

  -- so the id is gone
  pub gone_without : (before after : Option Entry) → before ≡ get_or places at before → IsWithout after before id
      → (number : ℕ) → Contains (entries_of (without after)) (id, number) → ⊥
  gone_without None after is out number has =
      (left_was (id, number) (subst (λ (ps : List (Option Entry)). Contains (entries_of ps) (id, number))
      (emptied after out) has)).1 refl
  gone_without (Some entry) after is out number has =
      ⊎_elim
      (λ gone. (left_was (id, number) (subst (λ (ps : List (Option Entry)). Contains (entries_of ps) (id, number))
      (emptied after gone.1) has)).1 refl)
      (λ stays.
      let there : Contains (entries_of places) (id, number) =
      subst (λ (ps : List (Option Entry)). Contains (entries_of ps) (id, number)) (kept (Some entry) after (read (Some entry) is) stays.1) has in
      let holds : Holds (at_place_of places id) id number = held places id number table there in
      let seen : pair_of entry ≡ (id, number) = same_Some (pair_of entry) (id, number)
      (holds_there (Some entry) number is ∙ holds) in
      stays.0 (ap (λ (p : List ℕ × ℕ). p.0) seen))
      out

  -- and all of other ids is as it was
  pub others_without : (before after : Option Entry) → before ≡ get_or places at before → IsWithout after before id
      → (pair : List ℕ × ℕ) → pair.0 ≢ id → Contains (entries_of (without after)) pair ↔ Contains (entries_of places) pair
  others_without None after is out pair other =
      subst (λ (ps : List (Option Entry)). Contains (entries_of ps) pair ↔ Contains (entries_of places) pair) (sym (emptied after out)) (
        λ has. (left_was pair has).0,
        left_there (λ p holds. absurd (none-some p (ap (option_map pair_of) (read None is) ∙ holds))) pair other,
      )
  others_without (Some entry) after is out pair other =
      ⊎_elim
      (λ gone.
      subst (λ (ps : List (Option Entry)). Contains (entries_of ps) pair ↔ Contains (entries_of places) pair) (sym (emptied after gone.1)) (
        λ has. (left_was pair has).0,
        left_there (λ p holds.
            let seen : pair_of entry ≡ p = same_Some (pair_of entry) p (ap (option_map pair_of) (read (Some entry) is) ∙ holds) in
            sym (ap (λ (q : List ℕ × ℕ). q.0) seen) ∙ gone.0) pair other,
      ))
      (λ stays.
      subst (λ (ps : List (Option Entry)). Contains (entries_of ps) pair ↔ Contains (entries_of places) pair)
      (sym (kept (Some entry) after (read (Some entry) is) stays.1)) (λ has. has, λ has. has))
      out
