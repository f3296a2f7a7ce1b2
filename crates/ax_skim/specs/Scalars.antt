-- Scalars that are read from a text at once (JSON, RFC 8259).
use Rattle.std.specs.Prelude.{◌≡◌, ℕ, ℤ, List, Bool, true, Option, Some, None, codes}
use Rattle.ax_tree.specs.CanonicalText.{truth_text}
use Rattle.ax_tree.specs.WellFormed.{is_of_64_bits}
use Rattle.ax_tree.specs.declared.tree.Tree as tree
use Rattle.ax_tree.specs.declared.tree.Tree.{Tree}
use Rattle.ax_skim.specs.declared.scalar.Scalar.{Scalar}
use Rattle.ax_skim.specs.declared.scalar.Scalar.TheVariants as scalar
use Rattle.ax_skim.specs.Members.{IsPlain}

-- the tree that it is
abbrev pub scalar_tree : Scalar → Tree
scalar_tree scalar.Null = tree.Null
scalar_tree (scalar.Truth truth) = tree.Truth truth
scalar_tree (scalar.Number number) = tree.Number number
scalar_tree (scalar.Text text) = tree.Text text.now

-- the trees whose texts are read at once: all scalars of a document but texts with an escape
pub data IsAtOnce : Tree → Type 0 where
  of_null : IsAtOnce tree.Null
  of_truth : (value : Bool) → IsAtOnce (tree.Truth value)
  of_number : (value : ℤ) → is_of_64_bits value ≡ true → IsAtOnce (tree.Number value)
  of_text : (value : List ℕ) → IsPlain value → IsAtOnce (tree.Text value)

-- the scalar of a text that is a word; none of any other text
abbrev pub IsWordOf : List ℕ → Option Scalar → Type 0
IsWordOf text None =
    (text ≡ codes "null" → ⊥) × ((value : Bool) → text ≡ truth_text value → ⊥)
IsWordOf text (Some scalar.Null) = text ≡ codes "null"
IsWordOf text (Some (scalar.Truth value)) = text ≡ truth_text value
IsWordOf text (Some (scalar.Number value)) = ⊥
IsWordOf text (Some (scalar.Text value)) = ⊥
