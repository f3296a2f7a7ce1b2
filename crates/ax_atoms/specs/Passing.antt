-- What a document has of which a condition is true: a leaf on which the condition rests, whose term is
-- in the condition's ranges. Where the leaf is covered by the policy by which the document is indexed,
-- that is one of the document's terms.
use Rattle.std.specs.Prelude.{◌≡◌, ℕ, List, ◌++◌, Bool, true, false}
use Rattle.std.specs.List.{Contains, list_all}
use Rattle.ax_tree.specs.declared.tree.Tree.{Tree}
use Rattle.ax_mean.specs.declared.expr.Expr.{Expr}
use Rattle.ax_mean.specs.declared.query.Step.{Step}
use Rattle.ax_mean.specs.Meaning.{Env, is_yes, meaning}
use Rattle.ax_mean.specs.Values.{truth_of}
use Rattle.ax_policy.specs.declared.policy.Policy.{Policy}
use Rattle.ax_policy.specs.Covering.{Covers}
use Rattle.ax_terms.specs.Leaves.{Leaf, leaves}
use Rattle.ax_terms.specs.TermsOf.{HasTerm, leaf_term}
use Rattle.ax_atoms.specs.Atoms.{Atom, rests_at, rests_on_all}
use Rattle.ax_atoms.specs.Spans.{is_in_some, ranges_of}

-- the expression is true, where each alias stands for that value
abbrev pub is_true : Env → Expr → Bool
is_true env expr = is_yes (truth_of (meaning env expr))

-- each of the expressions is
abbrev pub are_true : Env → List Expr → Bool
are_true env = list_all (is_true env)

-- a path is this one; or, of conditions on all leaves there, it begins with it
abbrev pub IsAtOrBelow : Bool → List Step → List Step → Type 0
IsAtOrBelow false path other = other ≡ path
IsAtOrBelow true path other = (more : List Step) × (other ≡ path ++ more)

-- the condition rests on leaves of that path
abbrev pub RestsOn : Atom → List Step → Type 0
RestsOn atom path = IsAtOrBelow (rests_on_all atom) (rests_at atom) path

-- a leaf on which the condition rests, with a term in its ranges
pub record HasLeaf (atom : Atom) (given : Tree) : Type 0 where
  pub leaf : Leaf
  pub is : Contains (leaves given) leaf
  pub at : RestsOn atom leaf.path
  pub in_ranges : is_in_some (ranges_of atom) (leaf_term leaf) ≡ true

-- the policy covers all leaves on which the condition rests
abbrev pub IsCovered : Policy → Atom → Type 0
IsCovered policy atom = (path : List Step) → RestsOn atom path → Covers policy path

-- the document has a term in the condition's ranges
abbrev pub HasTermIn : Policy → Atom → Tree → Type 0
HasTermIn policy atom given =
    (bytes : List ℕ) × HasTerm policy given bytes × (is_in_some (ranges_of atom) bytes ≡ true)
