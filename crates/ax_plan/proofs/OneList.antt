-- The unions of a plan are one list.
use Rattle.std.proofs.Common.{◌≡◌, List, [], ◌∷◌, Option, Some, None, refl, sym, ap, ◌∙◌}
use Rattle.ax_term.specs.declared.range.TermRange.{TermRange}
use Rattle.ax_policy.specs.Table.{Table}
use Rattle.ax_atoms.specs.Atoms.{Atom}
use Rattle.ax_plan.specs.Combining.{combined_unions, sought_by}
use Rattle.ax_plan.specs.Usable.{AreSought, AreUnions, nothing, unanswered, unusable, usable}
use Rattle.ax_plan.specs.declared.sought.Sought.{Sought}

same_sought : (table : Table) (list : List (Option Atom)) (a b : List Sought) → AreSought table list a
    → AreSought table list b → a ≡ b
same_sought table [] _ _ nothing nothing = refl
same_sought table (None ∷ list) _ _ (unanswered o a more) (unanswered p b others) = same_sought table list a b more others
same_sought table (Some atom ∷ list) _ _ (unusable x o a not more) (unusable y p b never others) = same_sought table list a b more others
same_sought table (Some atom ∷ list) _ _ (unusable x o a not more) (usable y p b each others) = absurd (not each)
same_sought table (Some atom ∷ list) _ _ (usable x o a each more) (unusable y p b never others) = absurd (never each)
same_sought table (Some atom ∷ list) _ _ (usable x o a each more) (usable y p b all others) =
    ap (λ (sought : List Sought). sought_by atom ∷ sought) (same_sought table list a b more others)

pub same_unions : (table : Table) (list : List (Option Atom)) (a b : List (List TermRange)) → AreUnions table list a
    → AreUnions table list b → a ≡ b
same_unions table list a b one other =
    one.combined ∙ ap combined_unions (same_sought table list one.sought other.sought one.of_usable other.of_usable)
    ∙ sym other.combined
