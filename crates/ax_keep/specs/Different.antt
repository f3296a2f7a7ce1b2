-- The pairs by which two documents with one number differ under one policy: some pairs of the one and some
-- of the other, so that each other pair of the one is one of the other too. Only clauses of private functions
-- cite it: what comes of it, `Exchanges` says.
use Rattle.std.specs.Prelude.{ℕ, List, [], ◌∷◌, Bool, true, false, Some}
use Rattle.ax_tree.specs.declared.tree.Tree.{Tree}
use Rattle.ax_pair.specs.declared.pair.Pair.{Pair}
use Rattle.ax_pair.specs.Order.{Rise}
use Rattle.ax_policy.specs.declared.policy.Policy.{Policy}
use Rattle.ax_term.specs.TermBytes.{term_bytes}
use Rattle.ax_term.specs.Terms.{Term}
use Rattle.ax_keep.specs.Exchanges.{IsIn}
use Rattle.ax_keep.specs.Owned.{Owns}

-- the lists rise; the first has pairs of the old document, the second of the new one; each other pair of the one
-- is a pair of the other, and in neither list
pub record AreDifferent (number : ℕ) (policy : Policy) (old new : Tree) (before after : List Pair) : Type 0 where
  pub before_rise : Rise before
  pub after_rise : Rise after
  pub before_are : (pair : Pair) → IsIn before pair → Owns number policy (Some old) pair
  pub after_are : (pair : Pair) → IsIn after pair → Owns number policy (Some new) pair
  pub old_stay : (pair : Pair) → Owns number policy (Some old) pair → (IsIn before pair → ⊥)
      → Owns number policy (Some new) pair × (IsIn after pair → ⊥)
  pub new_stay : (pair : Pair) → Owns number policy (Some new) pair → (IsIn after pair → ⊥)
      → Owns number policy (Some old) pair × (IsIn before pair → ⊥)

-- the pair of an id, unless that is left out
abbrev pub id_pairs : Bool → List ℕ → ℕ → List Pair
id_pairs true id number = []
id_pairs false id number = record { term = term_bytes (Term.Id id); number = number } ∷ []
