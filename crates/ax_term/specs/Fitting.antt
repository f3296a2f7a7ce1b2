-- The terms that documents have: their texts are bytes and their numbers of 64 bits, and a composite
-- term has as many values as paths, at most 255. The store's own term format, docs/FORMAT.md.
use Rattle.std.specs.Prelude.{◌≡◌, ℕ, ◌<◌, ◌≤◌, ⊤, List, true, All, length}
use Rattle.ax_tree.specs.WellFormed.{is_of_64_bits}
use Rattle.ax_mean.specs.declared.query.Order.{Order}
use Rattle.ax_mean.specs.declared.query.Step.{Step}
use Rattle.ax_term.specs.CutTexts.{CutText}
use Rattle.ax_term.specs.CutValues.{CutValue}
use Rattle.ax_term.specs.Terms.{Term}

-- each is a byte
abbrev pub AreBytes : List ℕ → Type 0
AreBytes = All (λ byte. byte < 256)

-- a name is bytes
abbrev pub IsStep : Step → Type 0
IsStep Step.Item = ⊤
IsStep (Step.Name name) = AreBytes name

-- and so is each name of a path
abbrev pub IsPath : List Step → Type 0
IsPath = All IsStep

-- what is kept of a text is bytes
abbrev pub IsText : CutText → Type 0
IsText text = AreBytes text.front

-- a number is of 64 bits, and a text bytes
abbrev pub IsValue : CutValue → Type 0
IsValue (CutValue.Number number) = is_of_64_bits number ≡ true
IsValue (CutValue.Text text) = IsText text
IsValue (CutValue.List text) = IsText text
IsValue (CutValue.Object text) = IsText text
IsValue _ = ⊤

-- the paths of a composite, and a value for each
pub record IsComposite (columns : List Order) (values : List CutValue) : Type 0 where
  pub paths_fit : All (λ column. IsPath column.path) columns
  pub values_fit : All IsValue values
  pub as_many : length values ≡ length columns
  pub at_most : length columns ≤ 255

-- what a term is made of fits
abbrev pub IsTerm : Term → Type 0
IsTerm (Term.Id id) = AreBytes id
IsTerm (Term.Plain path value) = IsPath path × IsValue value
IsTerm (Term.Composite columns values) = IsComposite columns values
