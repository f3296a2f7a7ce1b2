-- Which conditions of a query are answered from an index in which documents have their terms under several
-- policies: those that all of these let it answer. A plan has the ranges of terms of each of them.
-- It is this project's own; it comes from no public document.
use Rattle.std.specs.Prelude.{◌≡◌, List, [], ◌∷◌, Option, Some, None}
use Rattle.ax_term.specs.declared.range.TermRange.{TermRange}
use Rattle.ax_policy.specs.Table.{Table}
use Rattle.ax_atoms.specs.Atoms.{Atom}
use Rattle.ax_atoms.specs.Passing.{IsCovered}
use Rattle.ax_plan.specs.Combining.{combined_unions, sought_by}
use Rattle.ax_plan.specs.Taken.{HoldsOfTaken}
use Rattle.ax_plan.specs.declared.sought.Sought.{Sought}

-- each policy that is in use or now covers all leaves on which the condition rests
abbrev pub IsUsable : Table → Atom → Type 0
IsUsable table atom = HoldsOfTaken table (λ policy. IsCovered policy atom)

-- What is sought for the conditions: for each usable one a term in its ranges, in the order of the conditions, and nothing for
-- one that is not usable, or that an index does not answer.
pub data AreSought (table : Table) : List (Option Atom) → List Sought → Type 0 where
  nothing : AreSought table [] []
  unanswered : (atoms : List (Option Atom)) (sought : List Sought)
      → AreSought table atoms sought → AreSought table (None ∷ atoms) sought
  unusable : (atom : Atom) (atoms : List (Option Atom)) (sought : List Sought)
      → (IsUsable table atom → ⊥) → AreSought table atoms sought → AreSought table (Some atom ∷ atoms) sought
  usable : (atom : Atom) (atoms : List (Option Atom)) (sought : List Sought)
      → IsUsable table atom → AreSought table atoms sought
      → AreSought table (Some atom ∷ atoms) (sought_by atom ∷ sought)

-- The unions in which a query's candidates have terms: of each usable condition its ranges, and of several on one property
-- that are combined the ranges of the terms that are in those of all.
pub record AreUnions (table : Table) (atoms : List (Option Atom)) (unions : List (List TermRange)) : Type 0 where
  pub sought : List Sought
  pub of_usable : AreSought table atoms sought
  pub combined : unions ≡ combined_unions sought
