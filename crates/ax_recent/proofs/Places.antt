-- What a table holds, by the place of each id, and that it stays a table where one place is changed.
use Rattle.std.proofs.Common.{All, ◌≡◌, ◌≢◌, ℕ, zero, suc, ◌<◌, ◌≤◌, ◌⊎◌, List, [], ◌∷◌, length, get_or, set, replicate, take, Option, Some, None}
use Rattle.std.proofs.Common.{refl, ap, subst, ◌∙◌, sym, ⊎_elim, arith, inl, inr, get_or-set_other}
use Rattle.std.proofs.lemmas.Grind.{get_or-set_at}
use Rattle.std.specs.List.{Contains}
use Rattle.std.specs.Option.{option_map}
use Rattle.std.proofs.lemmas.Bool.{cases_order}
use Rattle.std.proofs.lemmas.List.{length-take}
use Rattle.std.proofs.lemmas.List.Elements.{All-contains, All-nil, All-cons, All-weaker}
use Rattle.std.proofs.Math.ListN.{length-set}
use Rattle.ax_recent.specs.declared.entry.Entry.{Entry}
use Rattle.ax_recent.specs.Hash.{place_of}
use Rattle.ax_recent.specs.Table.{id_of, pair_of, Holds, entries_of, at_place_of, AreAtTheirPlaces, IsTable}

-- a place among these has an entry that callers see so
abbrev Stands : List (Option Entry) → List ℕ × ℕ → Type 0
Stands places pair = (at : ℕ) × (at < length places) × (option_map pair_of (get_or places at None) ≡ Some pair)

behind : (place : Option Entry) (places : List (Option Entry)) (pair : List ℕ × ℕ) → Stands places pair
    → Stands (place ∷ places) pair
behind place places pair s = (suc s.0, omega (arith, s.1), s.2)

all_stand : (places : List (Option Entry)) → All (Stands places) (entries_of places)
unfolding entries_of
all_stand [] = All-nil (Stands [])
all_stand (None ∷ places) =
    All-weaker (Stands places) (Stands (None ∷ places)) (behind None places) (entries_of places) (all_stand places)
all_stand (Some entry ∷ places) =
    All-cons (Stands (Some entry ∷ places)) (pair_of entry) (entries_of places) (zero, omega arith, refl)
    (All-weaker (Stands places) (Stands (Some entry ∷ places)) (behind (Some entry) places) (entries_of places) (all_stand places))

-- each entry stands at some place
stands : (places : List (Option Entry)) (pair : List ℕ × ℕ) → Contains (entries_of places) pair → Stands places pair
stands places pair has = All-contains (Stands places) (entries_of places) pair (all_stand places) has

further : (first pair : List ℕ × ℕ) (pairs : List (List ℕ × ℕ)) → Contains pairs pair → Contains (first ∷ pairs) pair
further first pair pairs has = (suc has.0, omega (arith, has.1), has.2)

-- and what stands at a place is an entry
contains : (places : List (Option Entry)) (at : ℕ) (pair : List ℕ × ℕ) → at < length places
    → option_map pair_of (get_or places at None) ≡ Some pair → Contains (entries_of places) pair
unfolding entries_of
contains [] at pair within is = absurd (omega arith)
contains (None ∷ places) zero pair within is = absurd (cc)
contains (Some entry ∷ places) zero pair within is = (zero, omega arith, cc)
contains (None ∷ places) (suc at) pair within is = contains places at pair (omega arith) is
contains (Some entry ∷ places) (suc at) pair within is =
    further (pair_of entry) pair (entries_of places) (contains places at pair (omega arith) is)

-- a place that callers see so has an entry
entry_in : (place : Option Entry) (pair : List ℕ × ℕ) → option_map pair_of place ≡ Some pair
    → (entry : Entry) × (place ≡ Some entry) × (pair_of entry ≡ pair)
entry_in None pair is = absurd (cc)
entry_in (Some entry) pair is = (entry, refl, cc)

pub place_within : (id : List ℕ) (count : ℕ) → 0 < count → place_of id count < count
unfolding place_of
place_within id count some = omega arith

-- what the place of an id holds of the id is an entry
pub found : (places : List (Option Entry)) (id : List ℕ) (number : ℕ) → IsTable places
    → Holds (at_place_of places id) id number → Contains (entries_of places) (id, number)
found places id number table holds =
    contains places (place_of id (length places)) (id, number) (place_within id (length places) table.some) holds

-- and an entry of the id is held by its place
pub held : (places : List (Option Entry)) (id : List ℕ) (number : ℕ) → IsTable places
    → Contains (entries_of places) (id, number) → Holds (at_place_of places id) id number
held places id number table has =
    let s = stands places (id, number) has in
    let e = entry_in (get_or places s.0 None) (id, number) s.2 in
    let same : id_of e.0 ≡ id = ap (λ (p : List ℕ × ℕ). p.0) e.2 in
    let own : place_of id (length places) ≡ s.0 =
    ap (λ (i : List ℕ). place_of i (length places)) (sym same) ∙ table.placed s.0 e.0 s.1 e.1 in
    subst (λ (at : ℕ). option_map pair_of (get_or places at None) ≡ Some (id, number)) (sym own) s.2

-- a table stays one where a place is given to nothing, or to an entry whose place it is
placed_again : (places : List (Option Entry)) (at : ℕ) (place : Option Entry) → AreAtTheirPlaces places
    → ((entry : Entry) → place ≡ Some entry → place_of (id_of entry) (length places) ≡ at)
    → AreAtTheirPlaces (set places at place)
placed_again places at place placed own k entry within is =
    let size : length (set places at place) ≡ length places = length-set places at place in
    let among : k < length places = omega (arith, size) in
    ⊎_elim
    (λ (same : k ≡ at). rw size (own entry (sym (get_or-set_at places at k place None same (omega arith)) ∙ is) ∙ sym same))
    (λ other. let ne : k ≢ at = ⊎_elim (λ (l : k < at). omega arith) (λ (l : at < k). omega arith) other in
    rw size (placed k entry among (sym (get_or-set_other places at k place None ne) ∙ is)))
    (cases_order k at)

pub table_again : (places : List (Option Entry)) (at : ℕ) (place : Option Entry) → IsTable places
    → ((entry : Entry) → place ≡ Some entry → place_of (id_of entry) (length places) ≡ at)
    → IsTable (set places at place)
table_again places at place table own = record {
  some = omega (arith, length-set places at place, table.some);
  placed = placed_again places at place table.placed own;
}

-- what the place of an id holds after a change of one place
pub held_after : (places : List (Option Entry)) (at : ℕ) (place : Option Entry) (id : List ℕ) → at < length places
    → ((place_of id (length places) ≡ at) × (at_place_of (set places at place) id ≡ place))
    ⊎ ((place_of id (length places) ≢ at) × (at_place_of (set places at place) id ≡ at_place_of places id))
held_after places at place id within =
    let size : length (set places at place) ≡ length places = length-set places at place in
    let k : ℕ = place_of id (length places) in
    ⊎_elim
    (λ (same : k ≡ at). inl (same, rw size (get_or-set_at places at k place None same within)))
    (λ other. let ne : k ≢ at = ⊎_elim (λ (l : k < at). omega arith) (λ (l : at < k). omega arith) other in
    inr (ne, rw size (get_or-set_other places at k place None ne)))
    (cases_order k at)

-- an id that a table has is of at most 30 bytes
pub short : (places : List (Option Entry)) (pair : List ℕ × ℕ) → Contains (entries_of places) pair → length pair.0 ≤ 30
short places pair has =
    let s = stands places pair has in
    let e = entry_in (get_or places s.0 None) pair s.2 in
    let same : length (take e.0.len e.0.bytes) ≡ length pair.0 = ap (λ (p : List ℕ × ℕ). length p.0) e.2 in
    let bound : e.0.len ≤ 30 = e.0.within in
    omega (arith, same, bound, length-take e.0.len e.0.bytes)

-- places that are all empty have no entries
pub none_kept : (count : ℕ) → entries_of (replicate count None) ≡ []
unfolding entries_of
none_kept zero = refl
none_kept (suc count) = none_kept count
