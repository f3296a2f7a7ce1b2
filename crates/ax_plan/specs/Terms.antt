-- That a document has a term in each union of a plan: only such a document can have rows in its query.
use Rattle.std.specs.Prelude.{◌≡◌, ℕ, List, true, Option, Some}
use Rattle.std.specs.List.{Contains}
use Rattle.ax_tree.specs.declared.tree.Tree.{Tree}
use Rattle.ax_term.specs.declared.range.TermRange.{TermRange}
use Rattle.ax_policy.specs.Table.{Table}
use Rattle.ax_policy.specs.declared.policy.Policy.{Policy}
use Rattle.ax_terms.specs.TermsOf.{HasTerm}
use Rattle.ax_atoms.specs.Atoms.{Atom}
use Rattle.ax_atoms.specs.Spans.{is_in_some, ranges_of}
use Rattle.ax_plan.specs.Usable.{IsUsable}

-- under the policy the document has a term in the union of ranges
abbrev pub HasTermInUnion : Policy → Tree → List TermRange → Type 0
HasTermInUnion policy given ranges =
    (bytes : List ℕ) × HasTerm policy given bytes × (is_in_some ranges bytes ≡ true)

-- and so in each of these unions
abbrev pub HasTermInEach : Policy → Tree → List (List TermRange) → Type 0
HasTermInEach policy given unions =
    (ranges : List TermRange) → Contains unions ranges → HasTermInUnion policy given ranges

-- each term that is in the one union is in the other
abbrev pub IsWithin : List TermRange → List TermRange → Type 0
IsWithin ranges others = (bytes : List ℕ) → is_in_some ranges bytes ≡ true → is_in_some others bytes ≡ true

-- the union is within the ranges of one of these conditions, which is usable
pub record IsOfUsable (table : Table) (atoms : List (Option Atom)) (ranges : List TermRange) : Type 0 where
  pub atom : Atom
  pub is : Contains atoms (Some atom)
  pub usable : IsUsable table atom
  pub within : IsWithin ranges (ranges_of atom)

-- one of the unions is within the ranges of the condition
pub record HasUnion (unions : List (List TermRange)) (atom : Atom) : Type 0 where
  pub ranges : List TermRange
  pub is : Contains unions ranges
  pub within : IsWithin ranges (ranges_of atom)

-- under the policy the document has a term in the ranges of each of these conditions that is usable
abbrev pub HasTermForEach : Table → List (Option Atom) → Policy → Tree → Type 0
HasTermForEach table atoms policy given =
    (atom : Atom) → Contains atoms (Some atom) → IsUsable table atom → HasTermInUnion policy given (ranges_of atom)
