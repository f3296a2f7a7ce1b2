-- Terms, by which documents are found: a document's id; a path with the value that a document has
-- there; several paths, each with a direction, with the values at them. The store's own term format,
-- docs/FORMAT.md.
use Rattle.std.specs.Prelude.{ℕ, List}
use Rattle.ax_mean.specs.declared.query.Order.{Order}
use Rattle.ax_mean.specs.declared.query.Step.{Step}
use Rattle.ax_term.specs.CutValues.{CutValue}

pub data Term : Type 0 where
  -- the bytes of an id
  Id : List ℕ → Term
  -- a path, and the value there
  Plain : List Step → CutValue → Term
  -- the paths with their directions, and the value at each
  Composite : List Order → List CutValue → Term
