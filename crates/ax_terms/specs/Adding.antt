-- How the terms of leaves are added to others on a walk down a document. No public clause cites these
-- words.
use Rattle.std.specs.Prelude.{◌≡◌, ◌↔◌, ◌⊎◌, ℕ, List, ◌∷◌, ◌++◌}
use Rattle.std.specs.List.{Contains, flat_map}
use Rattle.ax_tree.specs.declared.tree.Tree.{Tree}
use Rattle.ax_mean.specs.declared.query.Step.{Step}
use Rattle.ax_mean.specs.declared.value.Value.TheVariants.{Defined}
use Rattle.ax_term.specs.CutValues.{cut_of}
use Rattle.ax_term.specs.TermBytes.{step_bytes, value_bytes}
use Rattle.ax_policy.specs.declared.policy.Policy.{Policy}
use Rattle.ax_policy.specs.declared.walk.RuleWalk.{RuleWalk}
use Rattle.ax_policy.specs.Covering.{Covers}
use Rattle.ax_policy.specs.Walking.{IsAt}
use Rattle.ax_terms.specs.Leaves.{Leaf, below}
use Rattle.ax_terms.specs.TermsOf.{leaf_term}

-- the bytes are the term of a covered leaf of those of a tree at that path
abbrev pub HasCovered : Policy → List Step → List Leaf → List ℕ → Type 0
HasCovered policy path leaves bytes =
    (leaf : Leaf) × Contains leaves leaf × Covers policy (path ++ leaf.path)
    × (bytes ≡ leaf_term (below path leaf))

-- the terms of these leaves are added to the old ones, and no others
abbrev pub Adds : Policy → List Step → List Leaf → List (List ℕ) → List (List ℕ) → Type 0
Adds policy path leaves old new =
    (bytes : List ℕ) → Contains new bytes ↔ (Contains old bytes ⊎ HasCovered policy path leaves bytes)

-- what a term at that path begins with
abbrev pub front_of : List Step → List ℕ
front_of path = 2 ∷ flat_map step_bytes path

-- the term of a leaf, from what it begins with
abbrev pub term_from : List ℕ → Tree → List ℕ
term_from front given = front ++ 1 ∷ value_bytes (cut_of (Defined given))

-- the same, wherever the walk and the front of its terms are
pub record AddsAt (walk : RuleWalk) (front : List ℕ) (leaves : List Leaf) (old new : List (List ℕ)) : Type 0 where
  pub so : (policy : Policy) (path : List Step) → IsAt walk policy path → front ≡ front_of path
      → Adds policy path leaves old new
