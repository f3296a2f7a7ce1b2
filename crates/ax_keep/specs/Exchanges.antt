-- Changes that exchange pairs of a set for others: the old ones go, the new ones come, and of what is
-- both nothing is said.
-- It is this project's own; it comes from no public document.
use Rattle.std.specs.Prelude.{◌≡◌, ◌↔◌, ◌⊎◌, Bool, true, false, List}
use Rattle.std.specs.List.{Contains}
use Rattle.std.specs.Option.{unwrap_or}
use Rattle.ax_pair.specs.declared.pair.Pair.{Pair}
use Rattle.ax_pair.specs.Order.{Rise}
use Rattle.ax_delta.specs.declared.change.Change.{Change}
use Rattle.ax_delta.specs.Changes.{changed_pairs}
use Rattle.ax_delta.specs.Said.{has, said_by}

-- the pair is in the list
abbrev pub IsIn : List Pair → Pair → Type 0
IsIn pairs pair = has pair pairs ≡ true

-- whether a pair is in the set after changes that rise: as the change of it says, and else as before
abbrev pub is_there_after : List Change → (Pair → Bool) → Pair → Bool
is_there_after changes set pair = unwrap_or (said_by pair changes) (set pair)

-- an added pair is new and not old, a dropped one old and not new
abbrev pub IsNetted : (Pair → Type 0) → (Pair → Type 0) → Bool → Pair → Type 0
IsNetted Old New true pair = New pair × (Old pair → ⊥)
IsNetted Old New false pair = Old pair × (New pair → ⊥)

-- The changes rise by their pairs. Of a set that has all old pairs they make the one that has the new
-- ones, and of all others those that it had. Each of them changes such a set.
pub record Exchanges (Old New : Pair → Type 0) (changes : List Change) : Type 0 where
  pub rise : Rise (changed_pairs changes)
  pub made : (set : Pair → Bool) → ((pair : Pair) → Old pair → set pair ≡ true)
      → (pair : Pair) → (is_there_after changes set pair ≡ true) ↔ (New pair ⊎ ((set pair ≡ true) × (Old pair → ⊥)))
  pub netted : (change : Change) → Contains changes change → IsNetted Old New change.add change.pair
