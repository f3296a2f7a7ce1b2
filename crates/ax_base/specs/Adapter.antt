-- What contracts see of a source or a sink over a reader or writer of the standard library.
-- It is this project's own; it comes from no public document.
use Rattle.std.specs.Prelude.{ℕ, List}
use Rattle.std.specs.declared.option.Option.{Option}

-- the bytes that remain to the reader or that the writer was given, where it tells them, and the
-- faults that were counted
pub record Adapter : Type 0 where
  pub told : Option (List ℕ)
  pub faults : ℕ
