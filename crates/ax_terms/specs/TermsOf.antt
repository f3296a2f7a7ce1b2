-- The terms by which an index finds a document under an indexing policy, its id apart: one for each
-- leaf that the policy covers, and one for each composite that it offers.
use Rattle.std.specs.Prelude.{◌≡◌, ◌↔◌, ℕ, List, map, ◌⊎◌}
use Rattle.std.specs.List.{Contains}
use Rattle.ax_tree.specs.declared.tree.Tree.{Tree}
use Rattle.ax_mean.specs.declared.query.Order.{Order}
use Rattle.ax_mean.specs.declared.value.Value.TheVariants.{Defined}
use Rattle.ax_mean.specs.Rows.{along_path}
use Rattle.ax_term.specs.CutValues.{CutValue, cut_of}
use Rattle.ax_term.specs.TermBytes.{term_bytes}
use Rattle.ax_term.specs.Terms.{Term}
use Rattle.ax_policy.specs.declared.policy.Policy.{Policy}
use Rattle.ax_policy.specs.Covering.{Covers}
use Rattle.ax_policy.specs.Ordering.{offered}
use Rattle.ax_terms.specs.Leaves.{Leaf, leaves}

-- the bytes of the term of a leaf
abbrev pub leaf_term : Leaf → List ℕ
leaf_term leaf = term_bytes (Term.Plain leaf.path (cut_of (Defined leaf.tree)))

-- the value at the path of a column: undefined where a document has none
abbrev pub value_at : Tree → Order → CutValue
value_at given column = cut_of (along_path (Defined given) column.path)

-- the bytes of the term of a composite
abbrev pub composite_term_of : Tree → List Order → List ℕ
composite_term_of given composite = term_bytes (Term.Composite composite (map (value_at given) composite))

-- the term of a leaf that is covered
abbrev pub HasPlain : Policy → Tree → List ℕ → Type 0
HasPlain policy given bytes =
    (leaf : Leaf) × Contains (leaves given) leaf × Covers policy leaf.path × (bytes ≡ leaf_term leaf)

-- the term of a composite that is offered
abbrev pub HasComposite : Policy → Tree → List ℕ → Type 0
HasComposite policy given bytes =
    (composite : List Order) × Contains (offered policy) composite
    × (bytes ≡ composite_term_of given composite)

abbrev pub HasTerm : Policy → Tree → List ℕ → Type 0
HasTerm policy given bytes = HasPlain policy given bytes ⊎ HasComposite policy given bytes

-- these are the terms of the document, in any order; no public clause cites it
pub record AreTermsOf (policy : Policy) (given : Tree) (terms : List (List ℕ)) : Type 0 where
  pub exact : (bytes : List ℕ) → Contains terms bytes ↔ HasTerm policy given bytes
